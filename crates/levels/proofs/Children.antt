-- The children of a branch: how many entries they have, and that their segments ascend from a number on.
use Rattle.std.proofs.Common.{◌≡◌, ℕ, suc, ◌+◌, ◌≤◌, List, [], ◌∷◌, length, refl, ap, arith, length-append}
use Rattle.trie.specs.Trie.{Node, Kids, none, kid, Item, listing_chain, listing_node, listing_kids}
use Rattle.trie.specs.Canon.{Above, Asc}

-- LISTINGS
pub chain_length : (xs : List (Item ℕ)) → length (listing_chain xs) ≡ length xs
unfolding listing_chain
chain_length [] = refl
chain_length (x ∷ xs) = ap suc (chain_length xs)

pub kids_length : (s : ℕ) (m : Node ℕ) (ks : Kids ℕ)
    → length (listing_kids (kid s m ks)) ≡ length (listing_node m) + length (listing_kids ks)
unfolding listing_kids
kids_length s m ks = length-append (listing_node m) (listing_kids ks)

-- SEGMENTS. They are low or more, and they ascend.
unfoldable pub From : ℕ → Kids ℕ → Type 0
From low none = Unit {0}
From low (kid s m ks) = (low ≤ s) × Above s ks

pub above_from : (s : ℕ) (ks : Kids ℕ) → Above s ks → From (suc s) ks
unfolding From Above
above_from s none a = tt
above_from s (kid i m ks) a = (omega (arith, a.0), a.1)

pub From-Above : (s : ℕ) (ks : Kids ℕ) → From (suc s) ks → Above s ks
unfolding From Above
From-Above s none f = tt
From-Above s (kid i m ks) f = (omega (arith, f.0), f.1)

pub Asc-From : (ks : Kids ℕ) → Asc ks → From 0 ks
unfolding From Asc
Asc-From none a = tt
Asc-From (kid s m ks) a = (omega arith, a)

pub From-Asc : (low : ℕ) (ks : Kids ℕ) → From low ks → Asc ks
unfolding From Asc
From-Asc low none f = tt
From-Asc low (kid i m ks) f = f.1

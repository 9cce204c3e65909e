-- A chain where a key stands, taken apart: the entries before it, which a removal copies, and those behind it, which it shares.
use mathlib.Core.Path.{◌≡◌, refl, sym, ap, ◌∙◌}
use mathlib.Core.Bool.{true, false}
use mathlib.Core.List.{List, [], ◌∷◌, ◌++◌}
use Prim.Native.Nat.{ℕ, suc, ◌+◌}
use native.Mathlib.Omega.{arith}
use lib.ListN.{length, length-append}
use Rattle.cases.proofs.Cases.{split}
use Rattle.trie.specs.Cells.{ahead, before}
use Rattle.trie.specs.Entry.{matches, absent, got, if_got}
use Rattle.trie.specs.Trie.{Item, item, find, copied, list_remove_first}
use Rattle.trie.proofs.ChainLaws.{find_miss, copied_hit, copied_miss}
use Rattle.trie.proofs.PathLaws.{find_none}

-- entries once more, under the names f j, f (j + 1), ..
unfoldable pub copies : {X : Type 0} → (ℕ → X) → ℕ → List (Item X) → List (Item X)
copies f j [] = []
copies f j (x ∷ xs) = item (f j) x.entry ∷ copies f (suc j) xs

pub copies_length : {X : Type 0} (f : ℕ → X) (j : ℕ) (xs : List (Item X)) → length (copies f j xs) ≡ length xs
unfolding copies
copies_length f j [] = refl
copies_length f j (x ∷ xs) = ap suc (copies_length f (suc j) xs)

-- how many stand before the first that matches
module _ {X : Type 0} (h k : ℕ) (x : Item X) (xs : List (Item X)) where
  pub ahead_hit : matches h k x.entry ≡ true → ahead h k (x ∷ xs) ≡ 0
  unfolding ahead
  ahead_hit e = rw e

  pub ahead_miss : matches h k x.entry ≡ false → ahead h k (x ∷ xs) ≡ suc (ahead h k xs)
  unfolding ahead
  ahead_miss e = rw e

-- the key stands at the entry `at`, the first that matches
pub record Parts {X : Type 0} (h k : ℕ) (xs : List (Item X)) : Type 0 where
  pub front : List (Item X)
  pub at : Item X
  pub rest : List (Item X)
  pub whole : xs ≡ front ++ (at ∷ rest)
  pub ahead_is : length front ≡ ahead h k xs
  pub has_key : matches h k at.entry ≡ true
  pub copied_is : (f : ℕ → X) (j : ℕ) → copied f j h k xs ≡ copies f j front ++ rest

module _ {X : Type 0} (h k : ℕ) (x : Item X) (xs : List (Item X)) where
  pub copied_here : (f : ℕ → X) (j : ℕ) → matches h k x.entry ≡ true → copied f j h k (x ∷ xs) ≡ copies f j [] ++ xs
  unfolding copies
  copied_here f j e = copied_hit f j h k x xs e

  pub copied_later : (f : ℕ → X) (j : ℕ) (es ys : List (Item X)) → matches h k x.entry ≡ false
      → copied f (suc j) h k xs ≡ copies f (suc j) es ++ ys → copied f j h k (x ∷ xs) ≡ copies f j (x ∷ es) ++ ys
  unfolding copies
  copied_later f j es ys e q = rw (copied_miss f j h k x xs e, q)

  -- it is the first entry, or stands behind it
  unfoldable pub parts_here : matches h k x.entry ≡ true → Parts h k (x ∷ xs)
  parts_here e =
      record {
        front = [];
        at = x;
        rest = xs;
        whole = refl;
        ahead_is = sym (ahead_hit h k x xs e);
        has_key = e;
        copied_is = λ f j. copied_here f j e;
      }

  unfoldable pub parts_later : matches h k x.entry ≡ false → Parts h k xs → Parts h k (x ∷ xs)
  parts_later e p =
      record {
        front = x ∷ p.front;
        at = p.at;
        rest = p.rest;
        whole = ap (λ (l : List (Item X)). x ∷ l) p.whole;
        ahead_is = ap suc p.ahead_is ∙ sym (ahead_miss h k x xs e);
        has_key = p.has_key;
        copied_is = λ f j. copied_later f j p.front p.rest e (p.copied_is f (suc j));
      }

module _ {X : Type 0} (h k : ℕ) where
  pub Parts-of : (xs : List (Item X)) (v : ℕ) → find h k xs ≡ got v → Parts h k xs
  Parts-of [] v e = let z : ◌≡◌ {A = ℕ} 0 1 = cc (find_none X h k) in absurd (omega arith)
  Parts-of (x ∷ xs) v e =
      split (matches h k x.entry)
      (λ m. parts_here h k x xs m)
      (λ m. parts_later h k x xs m (Parts-of xs v (sym (find_miss h k x xs m) ∙ e)))

  -- WHAT A REMOVAL LEAVES: all of the chain where the key is not there, and else copies of what stood before it and the rest
  module _ (xs : List (Item X)) where
    pub removed_absent : (f : ℕ → X) (j : ℕ) → find h k xs ≡ absent → list_remove_first f j h k xs ≡ xs
    unfolding list_remove_first if_got
    removed_absent f j e = rw e

    pub removed_there : (f : ℕ → X) (j v : ℕ) → find h k xs ≡ got v → (p : Parts h k xs)
        → list_remove_first f j h k xs ≡ copies f j p.front ++ p.rest
    unfolding list_remove_first if_got
    removed_there f j v e p = rw e (p.copied_is f j)

    pub before_there : (v : ℕ) → find h k xs ≡ got v → (p : Parts h k xs) → before h k xs ≡ length p.front
    unfolding before if_got
    before_there v e p = rw e (sym p.ahead_is)

    pub parts_length : (p : Parts h k xs) → length xs ≡ length p.front + suc (length p.rest)
    parts_length p = ap length p.whole ∙ length-append p.front (p.at ∷ p.rest)

-- The children of a branch: what stands at a segment, their order and how many they are, after put and take_out.
use mathlib.Core.Path.{◌≡◌, refl, sym, ◌∙◌, ap}
use mathlib.Core.Logic.{◌⊎◌, inl, inr}
use Prim.Native.Nat.{ℕ, ◌<◌, ◌≤◌}
use native.Mathlib.Omega.{arith}
use borrow.Author.Tests.{eq-eqb, ne_eqb, lt-ltb, le-ltb}
use Rattle.cases.proofs.Cases.{eq?, Tri, is_less, is_equal, is_more, tri}
use Rattle.trie.specs.Canon.{Above, Asc, AllKids, Some, Big, Busy}
use Rattle.trie.specs.Trie.{Node, Kids, none, kid, missing, found, child, put, take_out}

module _ {X : Type 0} where
  pub found-missing : (m : Node X) → missing ≡ found m → ⊥
  found-missing m q = let z : ◌≡◌ {A = ℕ} 0 1 = cc in omega arith

  pub same_node : (n m : Node X) → found n ≡ found m → n ≡ m
  same_node n m q = cc

  -- child, put and take_out at the head
  pub child_hit : (s i : ℕ) (m : Node X) (ks : Kids X) → i ≡ s → child s (kid i m ks) ≡ found m
  unfolding child
  child_hit s i m ks e = rw (eq-eqb i s e)

  pub child_miss : (s i : ℕ) (m : Node X) (ks : Kids X) → (i ≡ s → ⊥) → child s (kid i m ks) ≡ child s ks
  unfolding child
  child_miss s i m ks e = rw (ne_eqb i s e)

  pub child_only : (s i : ℕ) (m : Node X) → (i ≡ s → ⊥) → child s (kid i m none) ≡ missing
  unfolding child
  child_only s i m e = child_miss s i m none e

  pub put_hit : (s i : ℕ) (n m : Node X) (ks : Kids X) → i ≡ s → put s n (kid i m ks) ≡ kid s n ks
  unfolding put
  put_hit s i n m ks e = rw (eq-eqb i s e)

  pub put_less : (s i : ℕ) (n m : Node X) (ks : Kids X) → s < i → put s n (kid i m ks) ≡ kid s n (kid i m ks)
  unfolding put
  put_less s i n m ks l = rw (ne_eqb i s (λ e. omega arith), lt-ltb s i l)

  pub put_more : (s i : ℕ) (n m : Node X) (ks : Kids X) → i < s → put s n (kid i m ks) ≡ kid i m (put s n ks)
  unfolding put
  put_more s i n m ks l = rw (ne_eqb i s (λ e. omega arith), le-ltb s i (omega arith))

  pub take_hit : (s i : ℕ) (m : Node X) (ks : Kids X) → i ≡ s → take_out s (kid i m ks) ≡ ks
  unfolding take_out
  take_hit s i m ks e = rw (eq-eqb i s e)

  pub take_miss : (s i : ℕ) (m : Node X) (ks : Kids X) → (i ≡ s → ⊥) → take_out s (kid i m ks) ≡ kid i m (take_out s ks)
  unfolding take_out
  take_miss s i m ks e = rw (ne_eqb i s e)

  -- what stands at a segment after put and take_out
  pub child-put : (s : ℕ) (n : Node X) (ks : Kids X) → child s (put s n ks) ≡ found n
  unfolding put
  child-put s n none = child_hit s s n none refl
  child-put s n (kid i m ks) = go (child-put s n ks) (tri s i)
    where
      go : child s (put s n ks) ≡ found n → Tri s i → child s (put s n (kid i m ks)) ≡ found n
      go ih (is_less l) = rw (put_less s i n m ks l) (child_hit s s n (kid i m ks) refl)
      go ih (is_equal e) = rw (put_hit s i n m ks (sym e)) (child_hit s s n ks refl)
      go ih (is_more l) = rw (put_more s i n m ks l) (child_miss s i m (put s n ks) (λ e. omega arith) ∙ ih)

  pub child-put_other : (r s : ℕ) (n : Node X) (ks : Kids X) → (s ≡ r → ⊥) → child r (put s n ks) ≡ child r ks
  unfolding put
  child-put_other r s n none ne = child_miss r s n none ne
  child-put_other r s n (kid i m ks) ne = go (child-put_other r s n ks ne) (tri s i)
    where
      go : child r (put s n ks) ≡ child r ks → Tri s i → child r (put s n (kid i m ks)) ≡ child r (kid i m ks)
      go ih (is_less l) = rw (put_less s i n m ks l) (child_miss r s n (kid i m ks) ne)
      go ih (is_equal e) = rw (put_hit s i n m ks (sym e)) (child_miss r s n ks ne ∙ sym (child_miss r i m ks (λ q. ne (e ∙ q))))
      go ih (is_more l) = rw (put_more s i n m ks l) (step (eq? i r))
        where
          step : (i ≡ r) ⊎ (i ≡ r → ⊥) → child r (kid i m (put s n ks)) ≡ child r (kid i m ks)
          step (inl e) = child_hit r i m (put s n ks) e ∙ sym (child_hit r i m ks e)
          step (inr q) = child_miss r i m (put s n ks) q ∙ ih ∙ sym (child_miss r i m ks q)

  pub child-Above : (s lo : ℕ) (ks : Kids X) → Above lo ks → s ≤ lo → child s ks ≡ missing
  unfolding Above child
  child-Above s lo none a l = refl
  child-Above s lo (kid i m ks) (a, up) l = child_miss s i m ks (λ e. omega arith) ∙ child-Above s i ks up (omega arith)

  pub Above-Asc : (lo : ℕ) (ks : Kids X) → Above lo ks → Asc ks
  unfolding Above Asc
  Above-Asc lo none a = tt
  Above-Asc lo (kid j m ks) (l, a) = a

  pub child_take : (s : ℕ) (ks : Kids X) → Asc ks → child s (take_out s ks) ≡ missing
  unfolding Asc
  child_take s none a = unfold take_out child in refl
  child_take s (kid i m ks) a = go ks a (child_take s ks (Above-Asc i ks a)) (eq? i s)
    where
      go : (ks : Kids X) → Above i ks → child s (take_out s ks) ≡ missing → (i ≡ s) ⊎ (i ≡ s → ⊥)
          → child s (take_out s (kid i m ks)) ≡ missing
      go ks a ih (inl e) = rw (take_hit s i m ks e) (child-Above s i ks a (omega arith))
      go ks a ih (inr ne) = rw (take_miss s i m ks ne) (child_miss s i m (take_out s ks) ne ∙ ih)

  pub child_take_other : (r s : ℕ) (ks : Kids X) → (s ≡ r → ⊥) → child r (take_out s ks) ≡ child r ks
  child_take_other r s none ne = unfold take_out child in refl
  child_take_other r s (kid i m ks) ne = go (child_take_other r s ks ne) (eq? i s) (eq? i r)
    where
      go : child r (take_out s ks) ≡ child r ks → (i ≡ s) ⊎ (i ≡ s → ⊥) → (i ≡ r) ⊎ (i ≡ r → ⊥)
          → child r (take_out s (kid i m ks)) ≡ child r (kid i m ks)
      go ih (inl e) (inl q) = absurd (ne (sym e ∙ q))
      go ih (inl e) (inr q) = rw (take_hit s i m ks e) (sym (child_miss r i m ks q))
      go ih (inr e) (inl q) = rw (take_miss s i m ks e) (child_hit r i m (take_out s ks) q ∙ sym (child_hit r i m ks q))
      go ih (inr e) (inr q) = rw (take_miss s i m ks e) (child_miss r i m (take_out s ks) q ∙ ih ∙ sym (child_miss r i m ks q))

  pub take_missing : (s : ℕ) (ks : Kids X) → child s ks ≡ missing → take_out s ks ≡ ks
  take_missing s none q = unfold take_out in refl
  take_missing s (kid i m ks) q = go (take_missing s ks) (eq? i s)
    where
      go : (child s ks ≡ missing → take_out s ks ≡ ks) → (i ≡ s) ⊎ (i ≡ s → ⊥) → take_out s (kid i m ks) ≡ kid i m ks
      go ih (inl e) = absurd (found-missing m (sym q ∙ child_hit s i m ks e))
      go ih (inr ne) = take_miss s i m ks ne ∙ ap (kid i m) (ih (sym (child_miss s i m ks ne) ∙ q))

  -- the order is kept
  pub Above-put : (lo s : ℕ) (n : Node X) (ks : Kids X) → lo < s → Above lo ks → Above lo (put s n ks)
  unfolding Above put
  Above-put lo s n none l a = (l, tt)
  Above-put lo s n (kid i m ks) l (a, up) = go (λ j. Above-put i s n ks j up) (tri s i)
    where
      go : (i < s → Above i (put s n ks)) → Tri s i → Above lo (put s n (kid i m ks))
      go ih (is_less q) = rw (put_less s i n m ks q) (l, (q, up))
      go ih (is_equal e) = rw (put_hit s i n m ks (sym e)) (l, rw e up)
      go ih (is_more q) = rw (put_more s i n m ks q) (a, ih q)

  pub Asc-put : (s : ℕ) (n : Node X) (ks : Kids X) → Asc ks → Asc (put s n ks)
  unfolding Asc Above put
  Asc-put s n none a = tt
  Asc-put s n (kid i m ks) a = go (tri s i)
    where
      go : Tri s i → Asc (put s n (kid i m ks))
      go (is_less q) = rw (put_less s i n m ks q) (q, a)
      go (is_equal e) = rw (put_hit s i n m ks (sym e)) (rw e a)
      go (is_more q) = rw (put_more s i n m ks q) (Above-put i s n ks q a)

  Above-less : (lo i : ℕ) (ks : Kids X) → lo < i → Above i ks → Above lo ks
  unfolding Above
  Above-less lo i none l a = tt
  Above-less lo i (kid j m ks) l (a, up) = (omega arith, up)

  pub Above-take : (lo s : ℕ) (ks : Kids X) → Above lo ks → Above lo (take_out s ks)
  unfolding Above take_out
  Above-take lo s none a = tt
  Above-take lo s (kid i m ks) (a, up) = go (Above-take i s ks up) (eq? i s)
    where
      go : Above i (take_out s ks) → (i ≡ s) ⊎ (i ≡ s → ⊥) → Above lo (take_out s (kid i m ks))
      go ih (inl e) = rw (take_hit s i m ks e) (Above-less lo i ks a up)
      go ih (inr e) = rw (take_miss s i m ks e) (a, ih)

  pub Asc-take : (s : ℕ) (ks : Kids X) → Asc ks → Asc (take_out s ks)
  unfolding Asc Above take_out
  Asc-take s none a = tt
  Asc-take s (kid i m ks) a = go (eq? i s)
    where
      go : (i ≡ s) ⊎ (i ≡ s → ⊥) → Asc (take_out s (kid i m ks))
      go (inl e) = rw (take_hit s i m ks e) (Above-Asc i ks a)
      go (inr e) = rw (take_miss s i m ks e) (Above-take i s ks a)

  -- what holds of every child
  module _ (P : ℕ → Node X → Type 0) where
    pub all_put : (s : ℕ) (n : Node X) (ks : Kids X) → P s n → AllKids P ks → AllKids P (put s n ks)
    unfolding AllKids put
    all_put s n none p a = (p, tt)
    all_put s n (kid i m ks) p (a, more_a) = go (all_put s n ks p more_a) (tri s i)
      where
        go : AllKids P (put s n ks) → Tri s i → AllKids P (put s n (kid i m ks))
        go ih (is_less q) = rw (put_less s i n m ks q) (p, (a, more_a))
        go ih (is_equal e) = rw (put_hit s i n m ks (sym e)) (p, more_a)
        go ih (is_more q) = rw (put_more s i n m ks q) (a, ih)

    pub all_take : (s : ℕ) (ks : Kids X) → AllKids P ks → AllKids P (take_out s ks)
    unfolding AllKids take_out
    all_take s none a = tt
    all_take s (kid i m ks) (a, more_a) = go (all_take s ks more_a) (eq? i s)
      where
        go : AllKids P (take_out s ks) → (i ≡ s) ⊎ (i ≡ s → ⊥) → AllKids P (take_out s (kid i m ks))
        go ih (inl e) = rw (take_hit s i m ks e) more_a
        go ih (inr e) = rw (take_miss s i m ks e) (a, ih)

    pub all_child : (s : ℕ) (ks : Kids X) (m : Node X) → AllKids P ks → child s ks ≡ found m → P s m
    unfolding AllKids child
    all_child s none m a e = absurd (found-missing m e)
    all_child s (kid i n ks) m (a, more_a) e = go (all_child s ks m more_a) (eq? i s)
      where
        go : (child s ks ≡ found m → P s m) → (i ≡ s) ⊎ (i ≡ s → ⊥) → P s m
        go ih (inl q) = rw (← q, ← same_node n m (sym (child_hit s i n ks q) ∙ e)) a
        go ih (inr q) = ih (sym (child_miss s i n ks q) ∙ e)

  -- how many
  pub Busy-two : (s : ℕ) (m : Node X) (ks : Kids X) → Some ks → Busy (kid s m ks)
  unfolding Busy Some
  Busy-two s m none a = absurd a
  Busy-two s m (kid i n ks) a = tt

  pub Some-put : (s : ℕ) (n : Node X) (ks : Kids X) → Some (put s n ks)
  unfolding Some put
  Some-put s n none = tt
  Some-put s n (kid i m ks) = go (tri s i)
    where
      go : Tri s i → Some (put s n (kid i m ks))
      go (is_less q) = rw (put_less s i n m ks q) tt
      go (is_equal e) = rw (put_hit s i n m ks (sym e)) tt
      go (is_more q) = rw (put_more s i n m ks q) tt

  pub Busy-put : (s : ℕ) (n : Node X) (ks : Kids X) → Busy ks → ((m : Node X) → child s ks ≡ found m → Big m → Big n)
      → Busy (put s n ks)
  unfolding Busy put
  Busy-put s n none a big = absurd a
  Busy-put s n (kid i m none) a big = go (tri s i)
    where
      go : Tri s i → Busy (put s n (kid i m none))
      go (is_less q) = rw (put_less s i n m none q) tt
      go (is_equal e) = rw (put_hit s i n m none (sym e)) (big m (child_hit s i m none (sym e)) a)
      go (is_more q) = rw (put_more s i n m none q) tt
  Busy-put s n (kid i m (kid j l ks)) a big = go (tri s i)
    where
      go : Tri s i → Busy (put s n (kid i m (kid j l ks)))
      go (is_less q) = rw (put_less s i n m (kid j l ks) q) tt
      go (is_equal e) = rw (put_hit s i n m (kid j l ks) (sym e)) tt
      go (is_more q) = rw (put_more s i n m (kid j l ks) q) (Busy-two i m (put s n (kid j l ks)) (Some-put s n (kid j l ks)))

  -- a busy branch whose child at s is a single has others
  pub Some-take : (s : ℕ) (m : Node X) (ks : Kids X) → Busy ks → child s ks ≡ found m → (Big m → ⊥) → Some (take_out s ks)
  unfolding Busy child Some
  Some-take s m none a e small = absurd a
  Some-take s m (kid i n none) a e small = go (eq? i s)
    where
      go : (i ≡ s) ⊎ (i ≡ s → ⊥) → Some (take_out s (kid i n none))
      go (inl q) = absurd (small (rw (← same_node n m (sym (child_hit s i n none q) ∙ e)) a))
      go (inr q) = absurd (found-missing m (sym (child_miss s i n none q) ∙ e))
  Some-take s m (kid i n (kid j l ks)) a e small = go (eq? i s)
    where
      go : (i ≡ s) ⊎ (i ≡ s → ⊥) → Some (take_out s (kid i n (kid j l ks)))
      go (inl q) = rw (take_hit s i n (kid j l ks) q) tt
      go (inr q) = rw (take_miss s i n (kid j l ks) q) tt

-- What the tests of a removal say of what is shown: whether a node is a single, whether a branch has a second child, and whether
-- a single is all that is left of a branch. The last is when compress makes a branch its only child.
use Rattle.std.proofs.Common.{◌≡◌, ℕ, suc, Bool, true, false, cond, eqb, [], ◌∷◌, sym, refl, ap, ◌∙◌, ⊎_elim, arith, eq-eqb, ne_eqb}
use Rattle.cases.proofs.Cases.{eq?, Tri, is_less, is_equal, is_more, tri}
use Rattle.sparse_array.specs.Bitmap.{below}
use Rattle.layout.specs.declared.Shape.{Shape}
use Rattle.layout.specs.Columns.{State}
use Rattle.trie.specs.Trie.{Item, Node, leaf, branch, Kids, none, kid, found, child, put, take_out, is_empty, is_single, compress}
use Rattle.trie.specs.Canon.{Some}
use Rattle.trie.proofs.KidsLaws.{found-missing, same_node, child_hit, child_only, put_hit, put_less, put_more, Some-put}
use Rattle.arena.specs.Shows.{bitmap, Shows, ShowsRow}
use Rattle.arena.proofs.Frames.{shown_some}
use Rattle.grafts.specs.Grafts.{kid_row}
use Rattle.grafts.proofs.SeenLaws.{Seen, Celled, none_entry}
use Rattle.prunes.specs.Prunes.{is_a_single, is_the_only, is_lone, out_at}
use Rattle.prunes.proofs.OneEntryLaws.{single_is}
use Rattle.prunes.proofs.RowLaws.{row_out_lem}

-- no second child; and a single as the only one
unfoldable pub few_kids : {X : Type 0} → Kids X → Bool
few_kids none = true
few_kids (kid s m none) = true
few_kids (kid s m (kid i n ks)) = false

unfoldable pub lone_kids : {X : Type 0} → Kids X → Bool
lone_kids none = false
lone_kids (kid s m none) = is_single m
lone_kids (kid s m (kid i n ks)) = false

-- WHAT COMPRESS MAKES OF CHILDREN
module _ {X : Type 0} where
  only_single : (m : Node X) → is_single m ≡ true → (y : Item X) × (m ≡ leaf (y ∷ []))
  unfolding is_single
  only_single (leaf []) e = let n : ◌≡◌ {A = ℕ} 0 1 = cc in absurd (omega arith)
  only_single (leaf (y ∷ [])) e = (y, refl)
  only_single (leaf (x ∷ (y ∷ xs))) e = let n : ◌≡◌ {A = ℕ} 0 1 = cc in absurd (omega arith)
  only_single (branch c ks) e = let n : ◌≡◌ {A = ℕ} 0 1 = cc in absurd (omega arith)

  pub lone_pressed : (ks : Kids X) → lone_kids ks ≡ true → (i : ℕ) × (y : Item X) × (ks ≡ kid i (leaf (y ∷ [])) none)
  unfolding lone_kids
  lone_pressed none e = let n : ◌≡◌ {A = ℕ} 0 1 = cc in absurd (omega arith)
  lone_pressed (kid i m none) e =
      let (y, q) = only_single m e in
      (i, y, ap (λ (o : Node X). kid i o none) q)
  lone_pressed (kid i m (kid j n ks)) e = let n : ◌≡◌ {A = ℕ} 0 1 = cc in absurd (omega arith)

  pub pressed_lone : (c : X) (i : ℕ) (y : Item X) → compress c (kid i (leaf (y ∷ [])) none) ≡ leaf (y ∷ [])
  unfolding compress is_single
  pressed_lone c i y = refl

  -- the child that is found is the single
  pub pressed_found : (c : X) (s : ℕ) (ks : Kids X) (m : Node X) → lone_kids ks ≡ true → child s ks ≡ found m
      → (y : Item X) × (m ≡ leaf (y ∷ [])) × (compress c ks ≡ leaf (y ∷ []))
  pressed_found c s ks m e q =
      let (i, y, k) = lone_pressed ks e in
      let there : child s (kid i (leaf (y ∷ [])) none) ≡ found m = sym (ap (child s) k) ∙ q in (
        y,
        ⊎_elim
            (λ o. sym (same_node (leaf (y ∷ [])) m (sym (child_hit s i (leaf (y ∷ [])) none o) ∙ there)))
            (λ ne. absurd (found-missing m (sym (child_only s i (leaf (y ∷ [])) ne) ∙ there)))
            (eq? i s),
        ap (compress c) k ∙ pressed_lone c i y,
      )

  pub not_pressed : (c : X) (ks : Kids X) → lone_kids ks ≡ false → compress c ks ≡ branch c ks
  unfolding lone_kids compress
  not_pressed c none e = refl
  not_pressed c (kid i m none) e = rw e
  not_pressed c (kid i m (kid j n ks)) e = refl

  lone_many : (i : ℕ) (m : Node X) (ks : Kids X) → Some ks → lone_kids (kid i m ks) ≡ false
  unfolding Some lone_kids
  lone_many i m none a = absurd a
  lone_many i m (kid j n ks) a = refl

  -- a child put in the place of another
  pub few_put : (s : ℕ) (m old : Node X) (ks : Kids X) → child s ks ≡ found old
      → lone_kids (put s m ks) ≡ cond (few_kids ks) (is_single m) false
  unfolding few_kids
  few_put s m old none q = absurd (found-missing old (unfold child in q))
  few_put s m old (kid i n none) q = by (tri s i)
    where
      by : Tri s i → lone_kids (put s m (kid i n none)) ≡ is_single m
      by (is_less l) = absurd (found-missing old (sym (child_only s i n (λ e. omega arith)) ∙ q))
      by (is_equal e) = rw (put_hit s i m n none (sym e)) (unfold lone_kids in refl)
      by (is_more l) = absurd (found-missing old (sym (child_only s i n (λ e. omega arith)) ∙ q))
  few_put s m old (kid i n (kid j k ks)) q = by (tri s i)
    where
      by : Tri s i → lone_kids (put s m (kid i n (kid j k ks))) ≡ false
      by (is_less l) = rw (put_less s i m n (kid j k ks) l) (unfold lone_kids in refl)
      by (is_equal e) = rw (put_hit s i m n (kid j k ks) (sym e)) (unfold lone_kids in refl)
      by (is_more l) = rw (put_more s i m n (kid j k ks) l) (lone_many i n (put s m (kid j k ks)) (Some-put s m (kid j k ks)))

-- ROWS: the first and the second word
module _ (σ : State) (t : ℕ) (f : ℕ → ℕ) where
  pub first_is : (c : ℕ) (ks : Kids ℕ) → ShowsRow σ ks t f → eqb (f 0) 0 ≡ is_empty (branch c ks)
  unfolding Shows is_empty
  first_is c none r = eq-eqb (f 0) 0 (r 0)
  first_is c (kid i m ks) r = ne_eqb (f 0) 0 (shown_some σ m (suc t) (f 0) r.0)

  pub second_is : (ks : Kids ℕ) → ShowsRow σ ks t f → eqb (f 1) 0 ≡ few_kids ks
  unfolding Shows few_kids
  second_is none r = eq-eqb (f 1) 0 (r 1)
  second_is (kid i m none) r = eq-eqb (f 1) 0 (r.1 0)
  second_is (kid i m (kid j n ks)) r = ne_eqb (f 1) 0 (shown_some σ n (suc t) (f 1) r.1.0)

-- SINGLES
module _ {z : Shape} {σ : State} (C : Celled z σ) where
  lone_row : (ks : Kids ℕ) (t : ℕ) (f : ℕ → ℕ) → ShowsRow σ ks t f
      → cond (few_kids ks) (is_a_single z σ (f 0)) false ≡ lone_kids ks
  unfolding Shows few_kids lone_kids
  lone_row none t f r = unfold is_a_single in (rw (r 0, none_entry z))
  lone_row (kid i m none) t f r = single_is C m (suc t) (f 0) r.0
  lone_row (kid i m (kid j n ks)) t f r = refl

-- BY THE CHILDREN THAT ARE SEEN
module _ {z : Shape} {σ : State} {t r : ℕ} {ks : Kids ℕ} (S : Seen z σ t r ks) where
  pub only_is : is_the_only z σ r ≡ few_kids ks
  unfolding is_the_only
  only_is = second_is σ t (kid_row z σ r) ks S.row

  module _ (s : ℕ) (old : Node ℕ) (q : child s ks ≡ found old) where
    -- the row without the child at s
    pub out_shown : ShowsRow σ (take_out s ks) t (out_at z σ r (below (bitmap ks) s))
    out_shown = row_out_lem σ s ks t (kid_row z σ r) old S.asc q S.row

    pub empty_is : (c : ℕ) → eqb (out_at z σ r (below (bitmap ks) s) 0) 0 ≡ is_empty (branch c (take_out s ks))
    empty_is c = first_is σ t _ c (take_out s ks) out_shown

    pub lone_is : Celled z σ → is_lone z σ r (below (bitmap ks) s) ≡ lone_kids (take_out s ks)
    unfolding is_lone
    lone_is C = rw (second_is σ t _ (take_out s ks) out_shown) (lone_row C (take_out s ks) t _ out_shown)

    -- the child put back as m, which x shows
    pub put_is : Celled z σ → (m : Node ℕ) (x : ℕ) → Shows σ m (suc t) x
        → cond (is_the_only z σ r) (is_a_single z σ x) false ≡ lone_kids (put s m ks)
    put_is C m x h = rw (only_is, single_is C m (suc t) x h) (sym (few_put s m old ks q))

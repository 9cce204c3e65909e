-- Every 16-bit pair has exactly one class, the one that `class_of` computes: each of its tests decides a sentence of `Is`.
-- Assumes nothing.
use Prim.Native.Nat.{ℕ, zero, suc, ◌/◌, ◌%◌, ◌<◌}
use mathlib.Core.Path.{◌≡◌, refl, sym, ◌∙◌, ap, ap₂, subst}
use mathlib.Core.Bool.{true, false, and-eq-true_iff, true≢false}
use mathlib.Core.Logic.{◌⊎◌, inl, inr, ⊎_elim}
use native.Mathlib.Nat.{mod-lt}
use native.Mathlib.Omega.{arith}
use lib.Dec.{leb}
use borrow.Author.Tests.{leb-true, le-leb}
use Rattle.cases.proofs.Cases.{split}
use Rattle.tags.specs.declared.Class.{Class}
use Rattle.tags.specs.declared.Class.TheVariants.{Public, Creator, Element, Unassigned}
use Rattle.tags.specs.Tags.{Within, Is, within, is_public, is_creator, is_element, class_of}

-- `within` decides `Within`.
pub within-true : (first last e : ℕ) → within first last e ≡ true → Within first last e
unfolding within
within-true first last e t = let w = (and-eq-true_iff (leb first e) (leb e last)).0 t in (leb-true first e w.0, leb-true e last w.1)

within_yes : (first last e : ℕ) → Within first last e → within first last e ≡ true
unfolding within
within_yes first last e w = (and-eq-true_iff (leb first e) (leb e last)).1 (le-leb first e w.0, le-leb e last w.1)

within_no : (first last e : ℕ) → (Within first last e → ⊥) → within first last e ≡ false
within_no first last e n = split (within first last e) (λ t. absurd (n (within-true first last e t))) (λ f. f)

within? : (first last e : ℕ) → Within first last e ⊎ (Within first last e → ⊥)
within? first last e =
    split (within first last e) (λ t. inl (within-true first last e t)) (λ f. inr (λ w. true≢false (sym (within_yes first last e w) ∙ f)))

-- So each test says what its sentence says.
public_yes : (g : ℕ) → g % 2 ≡ 0 → is_public g ≡ true
unfolding is_public
public_yes g even = rw even

public_no : (g : ℕ) → g % 2 ≡ 1 → is_public g ≡ false
unfolding is_public
public_no g odd = rw odd

creator_yes : (e : ℕ) → Within 0x0010 0x00FF e → is_creator e ≡ true
unfolding is_creator
creator_yes e w = within_yes _ _ e (omega arith)

creator_no : (e : ℕ) → (Within 0x0010 0x00FF e → ⊥) → is_creator e ≡ false
unfolding is_creator
creator_no e n = within_no _ _ e (λ w. n (omega arith))

element_yes : (e : ℕ) → Within 0x1000 0xFFFF e → is_element e ≡ true
unfolding is_element
element_yes e w = within_yes _ _ e (omega arith)

element_no : (e : ℕ) → (Within 0x1000 0xFFFF e → ⊥) → is_element e ≡ false
unfolding is_element
element_no e n = within_no _ _ e (λ w. n (omega arith))

-- A class that holds of a pair is the one that the tests find.
pub class_only : (c : Class) (g e : ℕ) → Is c g e → c ≡ class_of g e
unfolding Is class_of
class_only Public g e even = simp (public_yes g even)
class_only (Creator b) g e (odd, w, q) = simp (public_no g odd, creator_yes e w) (ap Creator q)
class_only (Element b l) g e (odd, w, q, small) =
    simp (public_no g odd, creator_no e (λ v. omega arith), element_yes e w) (ap₂ Element (omega arith) (omega arith))
class_only Unassigned g e (odd, n, m) = simp (public_no g odd, creator_no e n, element_no e m)

-- So no two classes hold of one pair.
pub classes_apart : (c d : Class) (g e : ℕ) → Is c g e → Is d g e → c ≡ d
classes_apart c d g e h k = class_only c g e h ∙ sym (class_only d g e k)

even? : (g : ℕ) → (g % 2 ≡ 0) ⊎ (g % 2 ≡ 1)
even? g = by (g % 2) (mod-lt g (omega arith))
  where
    by : (r : ℕ) → r < 2 → (r ≡ 0) ⊎ (r ≡ 1)
    by zero l = inl refl
    by (suc r) l = inr (omega arith)

-- Every pair has a class.
some_class : (g e : ℕ) → (c : Class) × Is c g e
unfolding Is
some_class g e =
    ⊎_elim (λ even. (Public, even))
    (λ odd. ⊎_elim (λ w. (Creator e, (odd, w, refl)))
    (λ n. ⊎_elim (λ w. (Element (e / 256) (e % 256), (odd, w, omega arith, omega arith))) (λ m. (Unassigned, (odd, n, m)))
    (within? 0x1000 0xFFFF e)) (within? 0x0010 0x00FF e)) (even? g)

-- And it is the one that the tests find.
pub class_Is : (g e : ℕ) → Is (class_of g e) g e
class_Is g e = let (c, h) = some_class g e in subst (λ (k : Class). Is k g e) (class_only c g e h) h

-- The block that an element belongs to has a creator: the tag of the same group whose element is the block.
pub Element-Creator : (block low g e : ℕ) → Is (Element block low) g e → Is (Creator block) g block
unfolding Is
Element-Creator block low g e (odd, w, q, small) = (odd, omega arith, refl)

-- The writers of chains step by step, as their mirrors have it.
use Prim.Native.Nat.{ℕ, zero, suc, ◌+◌, ◌-◌, ◌<◌}
use mathlib.Core.Path.{◌≡◌, refl, sym, ap, ◌∙◌, subst}
use mathlib.Core.Bool.{true, false}
use mathlib.Core.List.{List}
use mathlib.Core.Logic.{⊎_elim}
use native.Mathlib.Omega.{arith}
use Rattle.cases.proofs.Cases.{eq?, split}
use Rattle.layout.specs.declared.Shape.{Shape}
use Rattle.layout.specs.Layout.{Lent}
use Rattle.layout.specs.Columns.{word, refs, columns}
use Rattle.trie.specs.declared.Entry.{Entry}
use Rattle.lookup.specs.Lookup.{names_kind, entry_at}
use Rattle.lookup.proofs.FindLaws.{kind_says, kind_is}
use Rattle.cells.specs.Mirrors.{Wrote, wrote, and_then, taken, taken_of, take_words, share_words, fill_entry_words, put_in_words}
use Rattle.cells.proofs.TakeLaws.{taken_cell}
use Rattle.cells.proofs.StepColumns.{Lent-refs}
use Rattle.cells.proofs.Made.{then_on, then_over, taken_over, taken_on}
use Rattle.chains.specs.Chains.{length_at, entry_made, entry_copied, copied_on, closed, front_pushed, taken_from}

pub entry_refs : {z : Shape} {a : List ℕ} (r : ℕ) → Lent z a → names_kind z 1 r ≡ true → 0 < refs z r
entry_refs {z} r l e = Lent-refs l r (kind_says z 1 r e).0

-- LENGTH
pub length_entry : (z : Shape) (a : List ℕ) (r : ℕ) → names_kind z 1 r ≡ true → length_at z (columns z a) r ≡ word z a r 1
unfolding length_at
length_entry z a r e = rw e

pub length_none : (z : Shape) (a : List ℕ) (r : ℕ) → names_kind z 1 r ≡ false → length_at z (columns z a) r ≡ 0
unfolding length_at
length_none z a r e = rw e

-- the two parts of what was written
pub same_at : {c d : ℕ} {w v : List ℕ} → wrote c w ≡ wrote d v → c ≡ d
same_at e = ap (λ (s : Wrote). s.at) e

-- NEW
module _ (z : Shape) (a : List ℕ) (l : ℕ) (e : Entry) where
  pub new_over : (r : ℕ) (w : List ℕ) → r ≡ taken_of z a 1 → w ≡ take_words z a 1 → r ≡ 0 → wrote 0 w ≡ entry_made z a l e
  unfolding entry_made
  new_over r w er ew o = taken_over z a 1 r w er ew _ o

  pub new_on : (r : ℕ) (w v : List ℕ) → r ≡ taken_of z a 1 → w ≡ take_words z a 1 → (r ≡ 0 → ⊥)
      → v ≡ fill_entry_words z w r l 0 e → wrote r v ≡ entry_made z a l e
  unfolding entry_made
  new_on r w v er ew ne ev =
      taken_on z a 1 r w er ew (λ c x. fill_entry_words z x c l 0 e) v ne ev

  -- what is new is an entry
  pub new_names : (c : ℕ) (w : List ℕ) → wrote c w ≡ entry_made z a l e → (c ≡ 0 → ⊥) → names_kind z 1 c ≡ true
  unfolding entry_made
  new_names c w q ne =
      ⊎_elim
      (λ o. absurd (ne (same_at (q ∙ then_over (taken z a 1) _ o) ∙ o)))
      (λ some.
      let t = taken_cell z a 1 c (same_at (q ∙ then_on (taken z a 1) _ some)) ne in kind_is z 1 c t.0 t.1)
      (eq? (taken_of z a 1) 0)

-- COPY
pub copy_is : (z : Shape) (a : List ℕ) (r n l : ℕ) (x : Entry) → n ≡ word z a r 1 → l ≡ n - 1 → x ≡ entry_at (columns z a) r
    → entry_made z a l x ≡ entry_copied z a r
copy_is z a r n l x en el ex = rw (el, en, ex)

module _ (z : Shape) (c r : ℕ) (a : List ℕ) where
  pub on_over : (n : ℕ) → n ≡ 0 → copied_on z n c r a ≡ wrote c a
  unfolding copied_on
  on_over n e = rw e

  pub on_ends : (n : ℕ) → 0 < n → names_kind z 1 r ≡ false → copied_on z n c r a ≡ wrote 0 a
  unfolding copied_on
  on_ends zero l e = absurd (omega arith)
  on_ends (suc n) l e = rw e

  pub on_fails : (n d : ℕ) (w : List ℕ) → 0 < n → names_kind z 1 r ≡ true → wrote d w ≡ entry_copied z a r → d ≡ 0
      → copied_on z n c r a ≡ wrote 0 w
  unfolding copied_on
  on_fails zero d w l e q o = absurd (omega arith)
  on_fails (suc n) d w l e q o =
      rw e (then_over (entry_copied z a r) _ (sym (same_at q) ∙ o) ∙ sym q ∙ ap (λ (x : ℕ). wrote x w) o)

  pub on_next : (n d next : ℕ) (w v : List ℕ) → 0 < n → names_kind z 1 r ≡ true → wrote d w ≡ entry_copied z a r → (d ≡ 0 → ⊥)
      → next ≡ (columns z a).kid r 0 → v ≡ put_in_words z w c 0 d → copied_on z n c r a ≡ copied_on z (n - 1) d next v
  unfolding copied_on
  on_next zero d next w v l e q ne en ev = absurd (omega arith)
  on_next (suc n) d next w v l e q ne en ev =
      let m : suc n - 1 ≡ n = omega arith in
      rw (e, m, en, ev)
      (then_on (entry_copied z a r) _ (λ o. ne (same_at q ∙ o))
      ∙ ap (λ (s : Wrote). copied_on z n s.at ((columns z a).kid r 0) (put_in_words z s.words c 0 s.at)) (sym q))

  -- in a loop of e turns, at turn t
  pub on_turn : (e t d next : ℕ) (w v : List ℕ) → t < e → names_kind z 1 r ≡ true → wrote d w ≡ entry_copied z a r → (d ≡ 0 → ⊥)
      → next ≡ (columns z a).kid r 0 → v ≡ put_in_words z w c 0 d → copied_on z (e - t) c r a ≡ copied_on z (e - (t + 1)) d next v
  on_turn e t d next w v l named q ne en ev =
      let m : e - t - 1 ≡ e - (t + 1) = omega arith in
      on_next (e - t) d next w v (omega arith) named q ne en ev ∙ ap (λ (n : ℕ). copied_on z n d next v) m

-- what was copied last, or stood there before, is an entry
pub on_names : (z : Shape) (n c r : ℕ) (a : List ℕ) (d : ℕ) (w : List ℕ) → names_kind z 1 c ≡ true → wrote d w ≡ copied_on z n c r a
    → (d ≡ 0 → ⊥) → names_kind z 1 d ≡ true
on_names z zero c r a d w e q ne =
    subst (λ (x : ℕ). names_kind z 1 x ≡ true) (sym (same_at (q ∙ on_over z c r a 0 refl))) e
on_names z (suc n) c r a d w e q ne =
    split (names_kind z 1 r)
    (λ y.
    ⊎_elim
    (λ o. absurd (ne (same_at (q ∙ on_fails z c r a (suc n) x.at x.words (omega arith) y refl o))))
    (λ some.
    let m : suc n - 1 ≡ n = omega arith in
    on_names z n x.at ((columns z a).kid r 0) (put_in_words z x.words c 0 x.at) d w
    (new_names z a _ _ x.at x.words refl some)
    (rw m at (q ∙ on_next z c r a (suc n) x.at _ x.words _ (omega arith) y refl some refl refl)) ne)
    (eq? x.at 0))
    (λ f. absurd (ne (same_at (q ∙ on_ends z c r a (suc n) (omega arith) f))))
  where
    x : Wrote
    x = entry_copied z a r

-- STAND BEHIND: what is made behind a new entry, once it is there
module _ (z : Shape) (c n r q : ℕ) (w : List ℕ) (d : ℕ) (v : List ℕ) (on : wrote d v ≡ copied_on z n c r w) where
  pub stand_fails : d ≡ 0 → wrote 0 v ≡ closed z c q (copied_on z n c r w)
  unfolding closed
  stand_fails o = ap (λ (x : ℕ). wrote x v) (sym o) ∙ on ∙ sym (then_over (copied_on z n c r w) _ (sym (same_at on) ∙ o))

  pub stand_done : (u b : List ℕ) → (d ≡ 0 → ⊥) → u ≡ share_words z v q → b ≡ put_in_words z u d 0 q
      → wrote c b ≡ closed z c q (copied_on z n c r w)
  unfolding closed
  stand_done u b some eu eb =
      ap (λ (x : List ℕ). wrote c x) (eb ∙ ap (λ (x : List ℕ). put_in_words z x d 0 q) eu)
      ∙ ap (λ (s : Wrote). wrote c (put_in_words z (share_words z s.words q) s.at 0 q)) on
      ∙ sym (then_on (copied_on z n c r w) _ (λ o. some (same_at on ∙ o)))

-- a new entry s, and what is to stand behind it
abbrev pub standing : Shape → ℕ → ℕ → ℕ → Wrote → Wrote
standing z n r q s = and_then s (λ c w. closed z c q (copied_on z n c r w))

module _ (z : Shape) (n r q : ℕ) (s : Wrote) (c : ℕ) (w : List ℕ) (new : wrote c w ≡ s) where
  standing_none : c ≡ 0 → wrote 0 w ≡ standing z n r q s
  standing_none o = ap (λ (x : ℕ). wrote x w) (sym o) ∙ new ∙ sym (then_over s _ (sym (same_at new) ∙ o))

  standing_done : (c ≡ 0 → ⊥) → closed z c q (copied_on z n c r w) ≡ standing z n r q s
  standing_done ne =
      ap (λ (t : Wrote). closed z t.at q (copied_on z n t.at r t.words)) new
      ∙ sym (then_on s _ (λ o. ne (same_at new ∙ o)))

-- PUSH
module _ (z : Shape) (a : List ℕ) (l : ℕ) (e : Entry) (n r q : ℕ) (c : ℕ) (w : List ℕ) (new : wrote c w ≡ entry_made z a l e) where
  pub push_none : c ≡ 0 → wrote 0 w ≡ front_pushed z a l e n r q
  unfolding front_pushed
  push_none = standing_none z n r q (entry_made z a l e) c w new

  pub push_done : (c ≡ 0 → ⊥) → closed z c q (copied_on z n c r w) ≡ front_pushed z a l e n r q
  unfolding front_pushed
  push_done = standing_done z n r q (entry_made z a l e) c w new

-- TAKE FROM
module _ (z : Shape) (r q : ℕ) (a : List ℕ) where
  pub take_shares : (n : ℕ) (b : List ℕ) → n ≡ 0 → b ≡ share_words z a q → wrote q b ≡ taken_from z n r q a
  unfolding taken_from
  take_shares n b o eb = rw (o, eb)

  pub take_ends : (n : ℕ) → (n ≡ 0 → ⊥) → names_kind z 1 r ≡ false → wrote 0 a ≡ taken_from z n r q a
  unfolding taken_from
  take_ends zero nz f = absurd (nz refl)
  take_ends (suc n) nz f = rw f

  -- the first copy stands where a push has its new entry
  pub take_is : (n : ℕ) → names_kind z 1 r ≡ true → taken_from z (suc n) r q a ≡ standing z n ((columns z a).kid r 0) q (entry_copied z a r)
  unfolding taken_from
  take_is n y = rw y

  module _ (c : ℕ) (w : List ℕ) (y : names_kind z 1 r ≡ true) (new : wrote c w ≡ entry_copied z a r) where
    pub take_fails : (n : ℕ) → (n ≡ 0 → ⊥) → c ≡ 0 → wrote 0 w ≡ taken_from z n r q a
    take_fails zero nz o = absurd (nz refl)
    take_fails (suc n) nz o = standing_none z n ((columns z a).kid r 0) q (entry_copied z a r) c w new o ∙ sym (take_is n y)

    pub take_done : (n next : ℕ) → (n ≡ 0 → ⊥) → (c ≡ 0 → ⊥) → next ≡ (columns z a).kid r 0
        → closed z c q (copied_on z (n - 1) c next w) ≡ taken_from z n r q a
    take_done zero next nz ne en = absurd (nz refl)
    take_done (suc n) next nz ne en =
        let m : suc n - 1 ≡ n = omega arith in
        rw (m, en) (standing_done z n ((columns z a).kid r 0) q (entry_copied z a r) c w new ne ∙ sym (take_is n y))

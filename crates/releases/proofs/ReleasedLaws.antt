-- What a release leaves, and what is known on the way there: of a reference that is let go, of a reference taken out of a cell, and
-- of a branch in hand whose first children are let go.
use Prim.Native.Nat.{ℕ, ◌+◌, ◌≤◌, ◌<◌}
use mathlib.Core.Path.{◌≡◌, refl, ap, ◌∙◌}
use mathlib.Core.Bool.{true}
use mathlib.Core.List.{List}
use mathlib.Core.Logic.{⊎_elim}
use native.Mathlib.Omega.{arith}
use Rattle.cases.proofs.Cases.{eq?}
use Rattle.counts.specs.Counts.{upd, ind}
use Rattle.counts.proofs.CountLaws.{upd_same, upd_other, place_same}
use Rattle.layout.specs.declared.Shape.{Shape}
use Rattle.layout.specs.Layout.{kind_of, Lent}
use Rattle.layout.specs.Columns.{State, refs, columns, set_kid}
use Rattle.arena.specs.Local.{Local, Shrink, SameSlots}
use Rattle.arena.proofs.RefLaws.{refs_some}
use Rattle.arena.proofs.LocalLaws.{in_hand}
use Rattle.arena.proofs.Frames.{slots_refl, Shrink-refl}
use Rattle.arena.proofs.Steps.{unshare_none}
use Rattle.lookup.specs.Lookup.{names_kind}
use Rattle.lookup.proofs.FindLaws.{kind_is}
use Rattle.cells.specs.Mirrors.{take_out_words}
use Rattle.cells.proofs.StepColumns.{take_out_columns}
use Rattle.cells.proofs.Meaning.{unshare_means}
use Rattle.releases.specs.Releases.{less_words, release_from}
use Rattle.releases.proofs.CaseLaws.{less_shared}

-- cells only went, and what was in hand beside the reference still is
pub record Released (z : Shape) (a : List ℕ) (H : ℕ → ℕ) (b : List ℕ) : Type 0 where
  pub free : ℕ → List ℕ
  pub local : Local z (columns z b) H free
  pub shrink : Shrink 0 (columns z a) (columns z b)
  pub slots : SameSlots (columns z a) (columns z b)

-- nothing is done where nothing is in hand, and a cell that more words name is named by one fewer
module _ {z : Shape} {a : List ℕ} {free : ℕ → List ℕ} (r : ℕ) (H : ℕ → ℕ) (l : Lent z a)
    (I : Local z (columns z a) (λ x. ind x r + H x) free) where
  pub none_Released : r ≡ 0 → Released z a H a
  none_Released e =
      record { free = free; local = unshare_none H r e I; shrink = Shrink-refl 0 (columns z a); slots = slots_refl (columns z a) }

  pub less_Released : (r ≡ 0 → ⊥) → ((columns z a).count r ≡ 1 → ⊥) → Released z a H (less_words z a r)
  less_Released nz more =
      let two : 2 ≤ (columns z a).count r = omega (arith, (in_hand H r nz I).0) in
      let U = unshare_means H 0 r l two I in
      rw (less_shared z a r two) (record { free = free; local = U.local; shrink = U.shrink; slots = U.slots })

  pub hand_kind : (k : ℕ) → (r ≡ 0 → ⊥) → kind_of r ≡ k → names_kind z k r ≡ true
  hand_kind k nz e = kind_is z k r (refs_some z r (in_hand H r nz I).1) e

-- A REFERENCE TAKEN OUT of a cell, and what is left there
module _ {z : Shape} {a : List ℕ} (c k : ℕ) (l : Lent z a) (lk : k < refs z c) where
  abbrev pub out : List ℕ
  out = take_out_words z a c k

  is_out : columns z out ≡ set_kid (columns z a) c k 0
  is_out = take_out_columns z a c k l lk

  pub count-out : (r : ℕ) → (columns z out).count r ≡ (columns z a).count r
  count-out r = ap (λ (s : State). s.count r) is_out

  pub mark-out : (r : ℕ) → (columns z out).mark r ≡ (columns z a).mark r
  mark-out r = ap (λ (s : State). s.mark r) is_out

  row_out : (columns z out).kid c ≡ upd ((columns z a).kid c) k 0
  row_out = ap (λ (s : State). s.kid c) is_out ∙ place_same (columns z a).kid c k 0 c refl

  pub bare_out : (j : ℕ) → ((j ≡ k → ⊥) → (columns z a).kid c j ≡ 0) → (columns z out).kid c j ≡ 0
  bare_out j rest =
      ap (λ (f : ℕ → ℕ). f j) row_out
      ∙ ⊎_elim (λ e. upd_same ((columns z a).kid c) k 0 j e) (λ ne. upd_other ((columns z a).kid c) k 0 j ne ∙ rest ne) (eq? j k)

-- BRANCHES
-- what is known of a release that starts at depth t, with n depths left
abbrev pub Lets : Shape → ℕ → ℕ → Type 0
Lets z n t =
    (a : List ℕ) (free : ℕ → List ℕ) (r : ℕ) (H : ℕ → ℕ) → Lent z a → Local z (columns z a) (λ x. ind x r + H x) free
    → ((r ≡ 0 → ⊥) → kind_of r ≡ 0 → (columns z a).mark r ≡ t) → Released z a H (release_from z n t r a)

-- the branch c in hand, whose first m children are let go
pub record Bared (z : Shape) (a : List ℕ) (H : ℕ → ℕ) (c m : ℕ) (b : List ℕ) : Type 0 where
  pub free : ℕ → List ℕ
  pub lent : Lent z b
  pub local : Local z (columns z b) (λ x. ind x c + H x) free
  pub shrink : Shrink c (columns z a) (columns z b)
  pub slots : SameSlots (columns z a) (columns z b)
  pub one : (columns z b).count c ≡ 1
  pub mark_eq : (columns z b).mark c ≡ (columns z a).mark c
  pub bare : (k : ℕ) → k < m → (columns z b).kid c k ≡ 0

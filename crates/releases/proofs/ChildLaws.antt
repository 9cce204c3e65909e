-- One child more of a branch in hand is let go: its reference is taken out, and what it named is released. The branch stays counted
-- once, and holds its first children no more.
use Prim.Native.Nat.{ℕ, suc, ◌+◌, ◌<◌}
use mathlib.Core.Path.{◌≡◌, refl, ap, ◌∙◌}
use mathlib.Core.List.{List}
use native.Mathlib.Omega.{arith}
use Rattle.counts.specs.Counts.{ind}
use Rattle.counts.proofs.CountLaws.{ind_same}
use Rattle.layout.specs.declared.Shape.{Shape}
use Rattle.layout.specs.Layout.{kind_of, Lent}
use Rattle.layout.specs.Columns.{refs, columns}
use Rattle.arena.specs.Local.{Local}
use Rattle.arena.proofs.RefLaws.{refs_none, refs_branch}
use Rattle.arena.proofs.LocalLaws.{in_hand, occ_mono}
use Rattle.arena.proofs.Frames.{slots_trans, Shrink-trans, Shrink-weaken}
use Rattle.cells.specs.Mirrors.{take_out_words}
use Rattle.cells.proofs.KeptLaws.{Kept-Lent, take_out_Kept}
use Rattle.cells.proofs.Meaning.{take_out_means}
use Rattle.releases.specs.Releases.{release_from}
use Rattle.releases.proofs.KeptLaws.{release_Kept}
use Rattle.releases.proofs.ReleasedLaws.{count-out, mark-out, bare_out, Lets, Bared}

module _ {z : Shape} {a : List ℕ} {free : ℕ → List ℕ} (n t c : ℕ) (H : ℕ → ℕ) (lets : Lets z n (suc t)) (l : Lent z a)
    (I : Local z (columns z a) (λ x. ind x c + H x) free) (nz : c ≡ 0 → ⊥) (ev : kind_of c ≡ 0) (at : (columns z a).mark c ≡ t)
    (one : (columns z a).count c ≡ 1) where
  some : 0 < refs z c
  some = (in_hand H c nz I).1

  pub wide : refs z c ≡ z.degree
  wide = refs_branch z c some ev

  pub turn : (m : ℕ) (b : List ℕ) → m < z.degree → Bared z a H c m b
      → Bared z a H c (suc m) (release_from z n (suc t) ((columns z b).kid c m) (take_out_words z b c m))
  turn m b lm B =
      let lk : m < refs z c = omega (arith, wide) in
      let w = (columns z b).kid c m in
      let u = take_out_words z b c m in
      let v = release_from z n (suc t) w u in
      let O = take_out_means c m B.lent lk B.local in
      let lent : Lent z u = Kept-Lent (take_out_Kept z b c m lk) B.lent in
      let R = lets u B.free w (λ x. ind x c + H x) lent O.local
      (λ n0 e. mark-out c m B.lent lk w ∙ (B.local.below c m n0).0 ev e ∙ ap suc (B.mark_eq ∙ at)) in
      let one_left : (columns z v).count c ≡ 1
      = omega (
        arith,
        R.local.exact c nz,
        O.local.exact c nz,
        count-out c m B.lent lk c,
        B.one,
        occ_mono c nz R.shrink R.slots R.local,
        ind_same c c refl,
      ) in
      let live : 0 < (columns z v).count c = omega arith in
      record {
        free = R.free;
        lent = Kept-Lent (release_Kept z n (suc t) w u) lent;
        local = R.local;
        shrink =
            Shrink-trans (Shrink-trans B.shrink O.shrink) (Shrink-weaken c (R.local.out 0 (refs_none z)) R.shrink);
        slots = slots_trans B.slots (slots_trans O.slots R.slots);
        one = one_left;
        mark_eq = R.shrink.mark_eq c nz live ∙ mark-out c m B.lent lk c ∙ B.mark_eq;
        bare =
            λ k less.
            ap (λ (f : ℕ → ℕ). f k) (R.shrink.kid_eq c nz live)
            ∙ bare_out c m B.lent lk k (λ ne. B.bare k (omega arith));
      }

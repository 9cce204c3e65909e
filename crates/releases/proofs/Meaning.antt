-- What a release means on an arena in the local form, with the reference in hand: afterwards it is in hand no more, cells only
-- went, and what still lives has its words. A chain is let go entry by entry, each of which is free before the next is looked at;
-- a branch is in hand while its children are let go, so that it stays counted once, and it is free when it holds none any more.
use Prim.Native.Nat.{ℕ, zero, suc, ◌+◌, ◌≤◌}
use mathlib.Core.Path.{◌≡◌, refl, sym, ap, ◌∙◌}
use mathlib.Core.List.{List}
use mathlib.Core.Logic.{⊎_elim}
use native.Mathlib.Omega.{arith}
use lib.ListN.{length}
use Rattle.cases.proofs.Cases.{eq?, lt?}
use Rattle.counts.specs.Counts.{ind, among}
use Rattle.counts.proofs.CountLaws.{ind_same, ind_le, ind_pos, sum_mono, length-among}
use Rattle.layout.specs.declared.Shape.{Shape}
use Rattle.layout.specs.Layout.{kind_of, Lent}
use Rattle.layout.specs.Columns.{State, refs, columns}
use Rattle.arena.specs.Sound.{top}
use Rattle.arena.specs.Local.{Local, Shrink, SameSlots}
use Rattle.arena.specs.Steps.{on_chain}
use Rattle.arena.proofs.RefLaws.{refs_none, refs_some, refs_inside, refs_entry, num-entries}
use Rattle.arena.proofs.LocalLaws.{rehand, in_hand, some_used}
use Rattle.arena.proofs.Frames.{slots_refl, slots_trans, Shrink-refl, Shrink-trans, Shrink-close}
use Rattle.arena.proofs.Steps.{on_chain_at}
use Rattle.lookup.proofs.FindLaws.{kind_other}
use Rattle.cells.specs.Mirrors.{take_out_words, give_back_words}
use Rattle.cells.proofs.KeptLaws.{Kept-Lent, kept_trans, take_out_Kept, give_back_Kept}
use Rattle.cells.proofs.StepColumns.{Lent-degree}
use Rattle.cells.proofs.Meaning.{take_out_means, give_back_means}
use Rattle.releases.specs.Releases.{chain_from, row_from, release_from}
use Rattle.releases.proofs.CaseLaws.{none_kind, last_is, last_not, chain_ends, chain_less, chain_last, place_is, place_none, release_entry, release_none, release_less, release_last}
pub use Rattle.releases.proofs.ReleasedLaws.{Released}
use Rattle.releases.proofs.ReleasedLaws.{none_Released, less_Released, hand_kind, count-out, bare_out, Lets, Bared}
use Rattle.releases.proofs.ChildLaws.{wide, turn}

-- CHAINS
-- one entry that the hand alone names: its next is in hand afterwards, and one entry fewer is in use
record Stepped (z : Shape) (a : List ℕ) (H : ℕ → ℕ) (w : ℕ) (b : List ℕ) : Type 0 where
  pub free : ℕ → List ℕ
  pub local : Local z (columns z b) (λ x. ind x w + H x) free
  pub shrink : Shrink 0 (columns z a) (columns z b)
  pub slots : SameSlots (columns z a) (columns z b)
  pub entries : (w ≡ 0 → ⊥) → kind_of w ≡ 1
  pub fewer : (columns z b).used 1 + 1 ≡ (columns z a).used 1

entry_step : {z : Shape} {a : List ℕ} {free : ℕ → List ℕ} (r : ℕ) (H : ℕ → ℕ)
    → Lent z a → Local z (columns z a) (λ x. ind x r + H x) free → (r ≡ 0 → ⊥) → kind_of r ≡ 1 → (columns z a).count r ≡ 1
    → Stepped z a H ((columns z a).kid r 0) (give_back_words z (take_out_words z a r 0) r)
entry_step {z} {a} {free} r H l I nz od one =
    let w = (columns z a).kid r 0 in
    let some = (in_hand H r nz I).1 in
    let wide : refs z r ≡ 1 = refs_entry z r some od in
    let O = take_out_means r 0 l some I in
    let J : Local z (columns z (take_out_words z a r 0)) (λ x. ind x r + (ind x w + H x)) free
    = rehand _ (λ x n. omega arith) O.local in
    let lent = Kept-Lent (take_out_Kept z a r 0 some) l in
    let G = give_back_means (λ x. ind x w + H x) r lent (count-out r 0 l some r ∙ one)
    (λ j. bare_out r 0 l some j (λ ne. I.clip r j (omega arith))) J in
    record {
      free = on_chain free r;
      local = G.0.local;
      shrink = Shrink-close r G.1 (Shrink-trans O.shrink G.0.shrink);
      slots = slots_trans O.slots G.0.slots;
      entries = λ n. ((I.below r 0 n).1 od).0;
      fewer = omega (arith, I.used_ok 1, G.0.local.used_ok 1, ap length (on_chain_at free r 1 (sym od)));
    }

chain_means : {z : Shape} {a : List ℕ} {free : ℕ → List ℕ} (n r : ℕ) (H : ℕ → ℕ)
    → Lent z a → Local z (columns z a) (λ x. ind x r + H x) free
    → ((r ≡ 0 → ⊥) → kind_of r ≡ 1) → (columns z a).used 1 ≤ n → Released z a H (chain_from z n r a)
chain_means {z} {a} zero r H l I od few =
    ⊎_elim
    (λ e. rw (chain_ends z r a 0 (none_kind z 1 r e)) (none_Released r H l I e))
    (λ nz. absurd (omega (arith, some_used I r (in_hand H r nz I).0, ap (columns z a).used (od nz))))
    (eq? r 0)
chain_means {z} {a} (suc n) r H l I od few =
    ⊎_elim
    (λ e. rw (chain_ends z r a (suc n) (none_kind z 1 r e)) (none_Released r H l I e))
    (λ nz.
    let named = hand_kind r H l I 1 nz (od nz) in
    ⊎_elim
    (λ one.
    let S = entry_step r H l I nz (od nz) one in
    let some = (in_hand H r nz I).1 in
    let lent = Kept-Lent (kept_trans (take_out_Kept z a r 0 some) (give_back_Kept z _ r (refs_some z r some))) l in
    let R = chain_means {a = give_back_words z (take_out_words z a r 0) r} n ((columns z a).kid r 0) H lent S.local S.entries (omega (arith, S.fewer)) in
    rw (chain_last z r a n named (last_is z a r one))
    (record {
      free = R.free;
      local = R.local;
      shrink = Shrink-trans S.shrink R.shrink;
      slots = slots_trans S.slots R.slots;
    }))
    (λ more. rw (chain_less z r a n named (last_not z a r more)) (less_Released r H l I nz more))
    (eq? ((columns z a).count r) 1))
    (eq? r 0)

-- BRANCHES
module _ {z : Shape} {a : List ℕ} {free : ℕ → List ℕ} (n t c : ℕ) (H : ℕ → ℕ) (lets : Lets z n (suc t)) (l : Lent z a)
    (I : Local z (columns z a) (λ x. ind x c + H x) free) (nz : c ≡ 0 → ⊥) (ev : kind_of c ≡ 0) (at : (columns z a).mark c ≡ t)
    (one : (columns z a).count c ≡ 1) where
  rows : (m : ℕ) → m ≤ z.degree → Bared z a H c m (row_from (release_from z n (suc t)) z c m a)
  unfolding row_from
  rows zero lm =
      record {
        free = free;
        lent = l;
        local = I;
        shrink = Shrink-refl c (columns z a);
        slots = slots_refl (columns z a);
        one = one;
        mark_eq = refl;
        bare = λ k less. absurd (omega arith);
      }
  rows (suc m) lm = turn n t c H lets l I nz ev at one m (row_from (release_from z n (suc t)) z c m a) lm (rows m (omega arith))

  whole : Released z a H (give_back_words z (row_from (release_from z n (suc t)) z c z.degree a) c)
  whole =
      let B = rows z.degree (omega arith) in
      let G = give_back_means H c B.lent B.one
      (λ k. ⊎_elim (λ less. B.bare k less) (λ less. B.local.clip c k (omega (arith, wide n t c H lets l I nz ev at one))) (lt? k z.degree)) B.local in
      record {
        free = on_chain B.free c;
        local = G.0.local;
        shrink = Shrink-close c G.1 (Shrink-trans B.shrink G.0.shrink);
        slots = slots_trans B.slots G.0.slots;
      }

-- THE RELEASE
module _ {z : Shape} {a : List ℕ} {free : ℕ → List ℕ} (r : ℕ) (H : ℕ → ℕ) (l : Lent z a)
    (I : Local z (columns z a) (λ x. ind x r + H x) free) where
  -- an arena has no more entries in use than it has
  entry_Released : (n t : ℕ) → (r ≡ 0 → ⊥) → kind_of r ≡ 1 → Released z a H (release_from z n t r a)
  entry_Released n t nz od =
      rw (release_entry z t r a n (hand_kind r H l I 1 nz od))
      (chain_means z.entries r H l I (λ y. od) (omega (arith, I.used_ok 1, num-entries z (Lent-degree l))))

  nothing_Released : (n t : ℕ) → r ≡ 0 → Released z a H (release_from z n t r a)
  nothing_Released n t e =
      rw (release_none z t r a n (none_kind z 1 r e) (place_none z (columns z a) t r (none_kind z 0 r e)))
      (none_Released r H l I e)

  branch_Released : (n t : ℕ) → Lets z n (suc t) → (r ≡ 0 → ⊥) → kind_of r ≡ 0 → (columns z a).mark r ≡ t
      → Released z a H (release_from z (suc n) t r a)
  branch_Released n t lets nz ev at =
      let no_entry = kind_other z 1 r (λ e. omega arith) in
      let here = place_is z (columns z a) t r (hand_kind r H l I 0 nz ev) at in
      ⊎_elim
      (λ one. rw (release_last z t r a n no_entry here (last_is z a r one)) (whole n t r H lets l I nz ev at one))
      (λ more. rw (release_less z t r a n no_entry here (last_not z a r more)) (less_Released r H l I nz more))
      (eq? ((columns z a).count r) 1)

  -- by what the reference names
  by_kind : (n t : ℕ) → ((r ≡ 0 → ⊥) → kind_of r ≡ 0 → Released z a H (release_from z n t r a))
      → Released z a H (release_from z n t r a)
  by_kind n t branch =
      ⊎_elim
      (nothing_Released n t)
      (λ nz. ⊎_elim (entry_Released n t nz) (λ ne. branch nz (omega arith)) (eq? (kind_of r) 1))
      (eq? r 0)

Lets-all : (z : Shape) (n t : ℕ) → n + t ≡ z.depths → Lets z n t
Lets-all z zero t sum a free r H l I at =
    by_kind r H l I 0 t (λ nz ev. absurd (omega (arith, I.deep r (in_hand H r nz I).0 ev, at nz ev)))
Lets-all z (suc n) t sum a free r H l I at =
    by_kind r H l I (suc n) t
    (λ nz ev. branch_Released r H l I n t (Lets-all z n (suc t) (omega arith)) nz ev (at nz ev))

pub release_means : {z : Shape} {a : List ℕ} {free : ℕ → List ℕ} (n t r : ℕ) (H : ℕ → ℕ)
    → Lent z a → Local z (columns z a) (λ x. ind x r + H x) free → n + t ≡ z.depths
    → ((r ≡ 0 → ⊥) → kind_of r ≡ 0 → (columns z a).mark r ≡ t) → Released z a H (release_from z n t r a)
release_means {z} {a} {free} n t r H l I sum at = Lets-all z n t sum a free r H l I at

-- WORDS 10 AND 11 do not rise where cells only went, since a cell that was free is free
module _ {z : Shape} {σ τ : State} {H K : ℕ → ℕ} {free left : ℕ → List ℕ} (I : Local z σ H free) (J : Local z τ K left)
    (P : Shrink 0 σ τ) where
  free_stays : (p r : ℕ) → among (free p) r ≤ among (left p) r
  free_stays p r =
      ⊎_elim
      (λ e. omega arith)
      (λ ne.
      let w = I.within p r (omega arith) in
      let before : among (free p) r ≡ ind 0 (σ.count r) = ap (λ (q : ℕ). among (free q) r) (sym w.1) ∙ I.free_once r w.0 in
      let after : among (left p) r ≡ ind 0 (τ.count r) = ap (λ (q : ℕ). among (left q) r) (sym w.1) ∙ J.free_once r w.0 in
      let idle : σ.count r ≡ 0 = ind_pos 0 (σ.count r) (omega arith) in
      ⊎_elim
      (λ o. omega (arith, ind_same 0 (τ.count r) o, ind_le 0 (σ.count r)))
      (λ live. absurd (omega (arith, P.live r (λ o. omega (arith, w.0, refs_none z, ap (refs z) o)) (omega arith))))
      (eq? (τ.count r) 0))
      (eq? (among (free p) r) 0)

  pub used_falls : (p : ℕ) → τ.used p ≤ σ.used p
  used_falls p =
      omega (
        arith,
        I.used_ok p,
        J.used_ok p,
        length-among (top z) (free p) (λ r m. refs_inside z r (I.within p r m).0),
        length-among (top z) (left p) (λ r m. refs_inside z r (J.within p r m).0),
        sum_mono (top z) (λ r. among (free p) r) (λ r. among (left p) r) (free_stays p),
      )

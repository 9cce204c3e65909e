-- The chain that is shared: it is put behind the last entry of a chain that is made, or it is all that is left of a chain whose
-- first entry is taken out.
use Prim.Native.Nat.{ℕ, ◌+◌, ◌<◌}
use mathlib.Core.Path.{◌≡◌, refl, ap, ◌∙◌}
use mathlib.Core.List.{List}
use native.Mathlib.Omega.{arith}
use lib.ListN.{length}
use Rattle.counts.specs.Counts.{ind}
use Rattle.counts.proofs.CountLaws.{ind_le}
use Rattle.trie.specs.declared.Entry.{Entry}
use Rattle.trie.specs.Trie.{Item}
use Rattle.layout.specs.declared.Shape.{Shape}
use Rattle.layout.specs.Layout.{Lent}
use Rattle.layout.specs.Columns.{State, columns}
use Rattle.arena.specs.Shows.{ShowsChain}
use Rattle.arena.specs.Local.{Local}
use Rattle.arena.proofs.LocalLaws.{rehand, refree, live_some}
use Rattle.arena.proofs.Frames.{Grow-trans, slots_trans, chain_kept}
use Rattle.cells.specs.Mirrors.{Wrote, wrote, share_words, put_in_words}
use Rattle.cells.proofs.KeptLaws.{kept_trans, Kept-Lent, share_Kept, put_in_Kept}
use Rattle.cells.proofs.Meaning.{Grown, PutIn, share_means, PutIn-means}
use Rattle.cells.proofs.Made.{left, taking, Made, then_on, none_taken}
use Rattle.chains.specs.Chains.{closed, taken_from}
use Rattle.chains.proofs.Making.{chain_some, chain_live, Open, Closed, last_ref}

-- THE REST IS SHARED
closed_is : (z : Shape) (first q : ℕ) (s : Wrote) → (s.at ≡ 0 → ⊥)
    → closed z first q s ≡ wrote first (put_in_words z (share_words z s.words q) s.at 0 q)
unfolding closed
closed_is z first q s nz = then_on s _ nz

pub close_means : {z : Shape} {ρ : State} {free : ℕ → List ℕ} {j first l : ℕ} {e : Entry} {c : ℕ} {w : List ℕ}
    (q : ℕ) (ys : List (Item ℕ)) → Open z ρ free j first l e c w → ShowsChain ρ ys q → length ys ≡ l
    → Closed z free j first c ys w (closed z first q (wrote c w))
close_means {z} {ρ} {free} {j} {first} {l} {e} {c} {w} q ys O h len =
    let L = O.last in
    let σ = columns z w in
    let b = share_words z w q in
    let some = chain_some σ ys q (chain_kept O.grow ys q h) in
    let S : Grown z σ (columns z b) (λ r. ind r q + ind r first) (left (taking 1 j) free)
    = share_means q O.lent (λ nz. (some nz).0) (omega (arith, ind_le q first)) O.local in
    let g = S.grow in
    let shared = share_Kept z w q in
    let P : PutIn z c 0 q (columns z b) (columns z (put_in_words z b c 0 q)) (λ r. ind r first) (left (taking 1 j) free)
    = PutIn-means (λ r. ind r first) c 0 q (Kept-Lent shared O.lent) (last_ref O) (g.live c L.live)
    (ap (λ (f : ℕ → ℕ). f 0) (g.kid_eq c L.live) ∙ L.bare)
    (λ nz. (
      λ x y. absurd (omega (arith, L.kind)),
      λ x. ((some nz).1, omega (arith, g.mark_eq c L.live, L.mark_is, g.mark_eq q (some nz).0, (some nz).2)),
    ))
    S.local in
    rw (closed_is z first q (wrote c w) (live_some O.local c L.live))
    (record {
      next = q;
      at_is = refl;
      kept = kept_trans shared (put_in_Kept z b c 0 q (last_ref O));
      local = P.local;
      grow = P.over g;
      slots = slots_trans S.slots P.slots;
      shows = chain_kept (P.grow (Grow-trans O.grow g) L.new) ys q h;
    })

-- TAKEN OUT, where nothing stood before the removed entry: what stands behind it is the chain
pub take_behind : {z : Shape} {a : List ℕ} {free : ℕ → List ℕ} → Lent z a → Local z (columns z a) (λ r. 0) free
    → (r q : ℕ) (ys : List (Item ℕ)) → ShowsChain (columns z a) ys q → 0 < length ys
    → Made z a free (taking 1 0) (taken_from z 0 r q a) × ShowsChain (columns z (taken_from z 0 r q a).words) ys (taken_from z 0 r q a).at
unfolding taken_from
take_behind {z} {a} {free} lent I r q ys shown some =
    let live = chain_live (columns z a) ys q shown some in
    let S = share_means q lent (λ nz. live) (omega arith) I in (
      record {
        some = live_some I q live;
        kept = share_Kept z a q;
        local = refree (none_taken free 1) (rehand (λ x. ind x q) (λ x nz. omega arith) S.local);
        grow = S.grow;
        slots = S.slots;
      },
      chain_kept S.grow ys q shown,
    )

-- A NEW entry on an arena in the local form: the next free entry cell is taken and filled, with nothing behind it. What stands
-- behind it is put in later, so that until then it is the last entry of a chain that is being made.
use Prim.Native.Nat.{ℕ, suc, ◌+◌, ◌<◌}
use mathlib.Core.Path.{◌≡◌, refl, sym, ap, ◌∙◌}
use mathlib.Core.List.{List, ◌∷◌}
use native.Mathlib.Omega.{arith}
use lib.ListN.{length, get_or, drop}
use Rattle.counts.specs.Counts.{ind}
use Rattle.counts.proofs.CountLaws.{upd_at, ind_other, place_same}
use Rattle.trie.specs.declared.Entry.{Entry}
use Rattle.trie.specs.Trie.{Item, item}
use Rattle.layout.specs.declared.Shape.{Shape}
use Rattle.layout.specs.Layout.{reference, kind_of, cell_of, Lent}
use Rattle.layout.specs.Columns.{State, columns, set_kid}
use Rattle.arena.specs.Shows.{ShowsChain}
use Rattle.arena.specs.Local.{Local, Grow, SameSlots}
use Rattle.arena.proofs.RefLaws.{ref_cell}
use Rattle.arena.proofs.LocalLaws.{rehand, refree, live_cell, live_some}
use Rattle.arena.proofs.Frames.{slots_trans}
use Rattle.cells.specs.Frame.{Kept}
use Rattle.cells.specs.Mirrors.{Wrote, wrote, taken, taken_of, take_words, fill_entry_words}
use Rattle.cells.proofs.KeptLaws.{kept_trans, Kept-Lent, take_Kept, fill_entry_Kept}
use Rattle.cells.proofs.StepColumns.{one, three}
use Rattle.cells.proofs.Meaning.{Taken, take_means, fill_entry_means}
use Rattle.cells.proofs.Made.{left, taking, then_on, next_free, one_taken}
use Rattle.chains.specs.Chains.{entry_made}

-- THE LAST NEW ENTRY c: it did not live in ρ; in σ it holds the entry e and nothing behind it, where l entries are to stand
pub record Last (ρ σ : State) (l : ℕ) (e : Entry) (c : ℕ) : Type 0 where
  pub new : ρ.count c ≡ 0
  pub live : 0 < σ.count c
  pub kind : kind_of c ≡ 1
  pub mark_is : σ.mark c ≡ suc l
  pub bare : σ.kid c 0 ≡ 0
  pub plain_is : σ.plain c ≡ three e.hash e.key e.value

-- once a chain is put behind it, it is the front of a chain
pub Last-shows : {ρ σ τ : State} {l c : ℕ} {e : Entry} (i x : ℕ) (xs : List (Item ℕ))
    → Last ρ σ l e c → c ≡ reference 1 i → length xs ≡ l
    → Grow (set_kid σ c 0 x) τ → ShowsChain τ xs x → ShowsChain τ (item i e ∷ xs) c
unfolding ShowsChain three
Last-shows {σ = σ} {τ = τ} {c = c} {e = e} i x xs L at len g h =
    let k : τ.kid c 0 ≡ x
    = ap (λ (f : ℕ → ℕ). f 0) (g.kid_eq c L.live ∙ place_same σ.kid c 0 x c refl) ∙ upd_at (σ.kid c) 0 x in
    let p : τ.plain c ≡ three e.hash e.key e.value = g.plain_eq c L.live ∙ L.plain_is in (
      at,
      g.live c L.live,
      g.mark_eq c L.live ∙ L.mark_is ∙ ap suc (sym len),
      rw k h,
      ap (λ (f : ℕ → ℕ). f 0) p,
      ap (λ (f : ℕ → ℕ). f 1) p,
      ap (λ (f : ℕ → ℕ). f 2) p,
    )

-- A NEW ENTRY, in the cell c, with l entries to stand behind it
pub record Fresh (z : Shape) (a : List ℕ) (H : ℕ → ℕ) (free : ℕ → List ℕ) (l : ℕ) (e : Entry) (c : ℕ) (s : Wrote) : Type 0 where
  pub at_is : s.at ≡ c
  pub kept : Kept z a s.words
  pub local : Local z (columns z s.words) (λ r. ind r s.at + H r) free
  pub grow : Grow (columns z a) (columns z s.words)
  pub slots : SameSlots (columns z a) (columns z s.words)
  pub last : Last (columns z a) (columns z s.words) l e s.at

entry_made_is : (z : Shape) (a : List ℕ) (l : ℕ) (e : Entry) (c : ℕ) → taken_of z a 1 ≡ c → (c ≡ 0 → ⊥)
    → entry_made z a l e ≡ wrote c (fill_entry_words z (take_words z a 1) c l 0 e)
unfolding entry_made
entry_made_is z a l e c t nz =
    then_on (taken z a 1) _ (λ y. nz (sym t ∙ y))
    ∙ ap (λ (x : ℕ). wrote x (fill_entry_words z (take_words z a 1) x l 0 e)) t

entry_made_lem : {z : Shape} {a : List ℕ} {H : ℕ → ℕ} {free : ℕ → List ℕ} (l : ℕ) (e : Entry) (c : ℕ) (rs : List ℕ)
    → Lent z a → free 1 ≡ c ∷ rs → Local z (columns z a) H free
    → Fresh z a H (λ q. drop (ind q 1) (free q)) l e c (entry_made z a (suc l) e)
unfolding one
entry_made_lem {z} {a} {H} {free} l e c rs lent next I =
    let T : Taken z a 1 c (λ r. ind r c + H r) (λ q. drop (ind q 1) (free q)) = take_means 1 (omega arith) lent I c rs next in
    let J = T.grown.local in
    let took = take_Kept z a 1 (omega arith) in
    let F = fill_entry_means H c (Kept-Lent took lent) T.alone T.bare (suc l) 0 e T.kind
    (rehand _ (λ r nz. omega (arith, ind_other r 0 (λ y. nz (sym y)))) J) (λ nz. absurd (nz refl)) in
    rw (entry_made_is z a (suc l) e c T.taken (live_some J c (omega (arith, T.alone))))
    (record {
      at_is = refl;
      kept = kept_trans took (fill_entry_Kept z _ c (suc l) 0 e T.named T.kind);
      local = F.local;
      grow = F.grow T.grown.grow T.unused;
      slots = slots_trans T.grown.slots F.slots;
      last =
          record {
            new = T.unused;
            live = omega (arith, ap (λ (g : ℕ → ℕ). g c) F.count_eq, T.alone);
            kind = T.kind;
            mark_is = F.mark_is;
            bare = ap (λ (g : ℕ → ℕ). g 0) F.kid_is;
            plain_is = F.plain_is;
          };
    })

-- the next free one is taken, where j were
pub entry_made_means : {z : Shape} {a : List ℕ} {H : ℕ → ℕ} (free : ℕ → List ℕ) (j l : ℕ) (e : Entry)
    → Lent z a → j < length (free 1) → Local z (columns z a) H (left (taking 1 j) free)
    → Fresh z a H (left (taking 1 (suc j)) free) l e (get_or (free 1) j 0) (entry_made z a (suc l) e)
entry_made_means free j l e lent some I =
    let F = entry_made_lem l e _ _ lent (next_free free 1 j some) I in
    record {
      at_is = F.at_is;
      kept = F.kept;
      local = refree (one_taken free 1 j) F.local;
      grow = F.grow;
      slots = F.slots;
      last = F.last;
    }

-- a cell of the free chain of the entries has the reference of its number
pub Fresh-ref : {z : Shape} {a : List ℕ} {H : ℕ → ℕ} {free : ℕ → List ℕ} {l : ℕ} {e : Entry} {c : ℕ} {s : Wrote} (i : ℕ)
    → Fresh z a H free l e c s → i ≡ cell_of c → s.at ≡ reference 1 i
Fresh-ref {z} {s = s} i F e =
    omega (arith, (ref_cell z s.at (live_cell F.local s.at F.last.live)).1, F.at_is, F.last.kind)

-- What the writers mean on an arena in the local form: its columns after a writer are a step of them, and every step keeps the
-- local form, with its frame.
use Prim.Native.Nat.{ℕ, zero, suc, ◌+◌, ◌-◌, ◌*◌, ◌^◌, ◌≤◌, ◌<◌}
use mathlib.Core.Path.{◌≡◌, refl, ap, ◌∙◌}
use mathlib.Core.Bool.{true}
use mathlib.Core.Logic.{⊎_elim}
use mathlib.Core.List.{[], List, ◌∷◌}
use native.Mathlib.Nat.{mul-le-mul}
use native.Mathlib.Omega.{arith}
use borrow.Author.Tests.{le-ltb}
use lib.ListN.{length, drop}
use Rattle.cases.proofs.Cases.{split, eq?}
use Rattle.counts.specs.Counts.{ind, sum_to, times}
use Rattle.counts.proofs.CountLaws.{upd_at, row_same}
use Rattle.trie.specs.declared.Entry.{Entry}
use Rattle.layout.specs.declared.Shape.{Shape}
use Rattle.layout.specs.Layout.{kind_of, names, Lent}
use Rattle.layout.specs.Columns.{State, by_kind, refs, columns, set_slot_words, set_kid, set_slot}
use Rattle.layout.proofs.SizeLaws.{row_is_Right, small}
use Rattle.layout.proofs.OffsetLaws.{names_low}
use Rattle.layout.proofs.ColumnLaws.{slot_store}
use Rattle.arena.specs.Local.{Below, Local, Grow, Shrink, SameSlots}
use Rattle.arena.specs.Steps.{take_state, fill_state, on_chain}
use Rattle.arena.proofs.RefLaws.{refs_none, refs_some, refs_branch, refs_entry}
use Rattle.arena.proofs.LocalLaws.{rehand, live_cell, first, used_and_free, none_left, count_bound}
use Rattle.arena.proofs.Frames.{Grow-refl, slots_refl, SameSlot}
use Rattle.arena.proofs.Steps.{share, unshare, share_none as share-nothing, Grow-share, Shrink-unshare, same_count, take, Grow-take, same_take, fill, Grow-fill, same_fill, give_back, Shrink-give, same_give, take_out, Shrink-take_out, put_in, Grow-kid, Grow-put_in, same_kid, hold, let_go, Grow-slot, Shrink-slot, slot_other}
use Rattle.cells.specs.Mirrors.{share_words, unshare_words, takeable, taken_of, take_words, fill_entry_words, fill_branch_words, put_in_words, take_out_words, give_back_words}
use Rattle.cells.proofs.TakeLaws.{takeable_is, takeable_says, taken_some, taken_none, take_words_none}
use Rattle.cells.proofs.StepColumns.{Lent-degree, Lent-refs, one, three, row_up_to, share_none, share_columns, unshare_columns, take_columns, fill_entry_columns, fill_branch_columns, put_in_columns, take_out_columns, give_back_columns}

-- WHAT A STEP GIVES: the local form, and what it leaves alone
pub record Grown (z : Shape) (σ τ : State) (hand : ℕ → ℕ) (free : ℕ → List ℕ) : Type 0 where
  pub local : Local z τ hand free
  pub grow : Grow σ τ
  pub slots : SameSlots σ τ

pub record Shrunk (z : Shape) (x : ℕ) (σ τ : State) (hand : ℕ → ℕ) (free : ℕ → List ℕ) : Type 0 where
  pub local : Local z τ hand free
  pub shrink : Shrink x σ τ
  pub slots : SameSlots σ τ

-- a cell that is filled, with its mark, its references and its other words: it is in hand already, so what lived before it was
-- taken lives on
pub record Filled (z : Shape) (c v : ℕ) (f d : ℕ → ℕ) (σ τ : State) (hand : ℕ → ℕ) (free : ℕ → List ℕ) : Type 0 where
  pub local : Local z τ hand free
  pub count_eq : τ.count ≡ σ.count
  pub mark_is : τ.mark c ≡ v
  pub kid_is : τ.kid c ≡ f
  pub plain_is : τ.plain c ≡ d
  pub grow : {ρ : State} → Grow ρ σ → ρ.count c ≡ 0 → Grow ρ τ
  pub slots : SameSlots σ τ

-- a reference v that is put into the cell r at place k: what lived keeps its words but for that one reference, and keeps all of
-- them where the cell is newer
pub record PutIn (z : Shape) (r k v : ℕ) (σ τ : State) (hand : ℕ → ℕ) (free : ℕ → List ℕ) : Type 0 where
  pub local : Local z τ hand free
  pub over : {ρ : State} → Grow ρ σ → Grow (set_kid ρ r k v) τ
  pub grow : {ρ : State} → Grow ρ σ → ρ.count r ≡ 0 → Grow ρ τ
  pub slots : SameSlots σ τ

-- a slot that is written: no cell changes and no other slot
pub record Slotted (z : Shape) (s h r n : ℕ) (σ τ : State) (hand : ℕ → ℕ) (free : ℕ → List ℕ) : Type 0 where
  pub local : Local z τ hand free
  pub grow : Grow σ τ
  pub shrink : (x : ℕ) → Shrink x σ τ
  pub held_is : τ.held s ≡ h
  pub root_is : τ.root s ≡ r
  pub size_is : τ.size s ≡ n
  pub others : (j : ℕ) → (j ≡ s → ⊥) → SameSlot σ τ j

-- THE SHAPE
Lent-depths : {z : Shape} {a : List ℕ} → Lent z a → 0 < z.depths
Lent-depths {z} l = (row_is_Right z l.allowed).some_depths

live_named : {z : Shape} {σ : State} {H : ℕ → ℕ} {free : ℕ → List ℕ} → Local z σ H free → (r : ℕ) → 0 < σ.count r → names z r ≡ true
live_named {z} I r live = refs_some z r (live_cell I r live)

-- no count is near the highest number of a word
count_few : {z : Shape} {a : List ℕ} {σ : State} {H : ℕ → ℕ} {free : ℕ → List ℕ} → Lent z a → Local z σ H free → (r : ℕ) → H r ≤ 1000000
    → σ.count r < 2 ^ 64 - 1
count_few {z} {σ = σ} {H = H} l I r few =
    let w = l.allowed in
    let c : σ.count r ≤ z.slots + z.branches * z.degree + z.entries + H r = count_bound r I (Lent-degree l) in
    let m : z.branches * z.degree ≤ 1048576 * 64 = mul-le-mul w.few_branches (small z w).degree_high in
    omega (arith, w.few_slots, w.few_entries)

-- SHARE AND UNSHARE
pub share_means : {z : Shape} {a : List ℕ} {H : ℕ → ℕ} {free : ℕ → List ℕ} (r : ℕ)
    → Lent z a → ((r ≡ 0 → ⊥) → 0 < (columns z a).count r) → H r ≤ 1000000 → Local z (columns z a) H free
    → Grown z (columns z a) (columns z (share_words z a r)) (λ x. ind x r + H x) free
share_means {z} {a} r l live few I =
    let σ = columns z a in
    ⊎_elim
    (λ e.
    rw (share_none z a r (names_low z r (omega arith)))
    (record { local = share-nothing r e I; grow = Grow-refl σ; slots = slots_refl σ }))
    (λ nz.
    rw (share_columns z a r l (live_named I r (live nz)) (count_few l I r few))
    (record { local = share r (live nz) I; grow = Grow-share σ r; slots = same_count σ r (σ.count r + 1) }))
    (eq? r 0)

pub unshare_means : {z : Shape} {a : List ℕ} {free : ℕ → List ℕ} (H : ℕ → ℕ) (x r : ℕ)
    → Lent z a → 2 ≤ (columns z a).count r → Local z (columns z a) (λ y. ind y r + H y) free
    → Shrunk z x (columns z a) (columns z (unshare_words z a r)) H free
unshare_means {z} {a} H x r l two I =
    let σ = columns z a in
    rw (unshare_columns z a r l (live_named I r (omega arith)))
    (record { local = unshare H r two I; shrink = Shrink-unshare x σ r two; slots = same_count σ r (σ.count r - 1) })

-- TAKE. The cell that is taken is named by what is in hand alone, and holds nothing.
pub record Taken (z : Shape) (a : List ℕ) (k c : ℕ) (hand : ℕ → ℕ) (free : ℕ → List ℕ) : Type 0 where
  pub taken : taken_of z a k ≡ c
  pub named : names z c ≡ true
  pub kind : kind_of c ≡ k
  pub unused : (columns z a).count c ≡ 0
  pub alone : (columns z (take_words z a k)).count c ≡ 1
  pub bare : (j : ℕ) → (columns z (take_words z a k)).kid c j ≡ 0
  pub grown : Grown z (columns z a) (columns z (take_words z a k)) hand free

module _ {z : Shape} {a : List ℕ} {H : ℕ → ℕ} {free : ℕ → List ℕ} (k : ℕ) (lk : k < 2) (l : Lent z a) (I : Local z (columns z a) H free) where
  pub take_means : (c : ℕ) (rs : List ℕ) → free k ≡ c ∷ rs → Taken z a k c (λ r. ind r c + H r) (λ q. drop (ind q k) (free q))
  take_means c rs e =
      let σ = columns z a in
      let F = first I k c rs e in
      let r : by_kind a 8 k ≡ c = F.head in
      let t : takeable z a k (by_kind a 8 k) ≡ true
      = rw r
      (takeable_is z a k c
      (record {
        named = refs_some z c F.cell;
        kind = F.kind;
        unused = F.unused;
        room = omega (arith, used_and_free I (Lent-degree l) k lk, ap length e);
      })) in
      let τ : columns z (take_words z a k) ≡ take_state σ k c = take_columns z a k l lk t ∙ ap (take_state σ k) r in
      record {
        taken = taken_some z a k t ∙ r;
        named = refs_some z c F.cell;
        kind = F.kind;
        unused = F.unused;
        alone = ap (λ (s : State). s.count c) τ ∙ upd_at σ.count c 1;
        bare = λ j. ap (λ (s : State). s.kid c j) τ ∙ I.rest c j F.unused;
        grown =
            rw τ
            (record { local = take k c rs e (Lent-depths l) I; grow = Grow-take σ k c F.unused; slots = same_take σ k c });
      }

  pub take_means_none : free k ≡ [] → (taken_of z a k ≡ 0) × (take_words z a k ≡ a)
  take_means_none e =
      split (takeable z a k (by_kind a 8 k))
      (λ t.
      absurd
      (omega (
        arith,
        Lent-refs l (by_kind a 8 k) (takeable_says z a k (by_kind a 8 k) t).named,
        ap (refs z) ((none_left I k).0 e),
        refs_none z,
      )))
      (λ f. (taken_none z a k f, take_words_none z a k f))

-- FILL
times-one : (n x : ℕ) → times 1 (one n) x ≡ ind x n
unfolding sum_to one
times-one n x = omega arith

one_clip : (n k : ℕ) → 1 ≤ k → one n k ≡ 0
unfolding one
one_clip n zero l = absurd (omega arith)
one_clip n (suc k) l = refl

-- the one place of a row that is not 0
one_place : (P : ℕ → Type 0) (n : ℕ) → ((n ≡ 0 → ⊥) → P n) → (k : ℕ) → (one n k ≡ 0 → ⊥) → P (one n k)
unfolding one
one_place P n h zero nz = h nz
one_place P n h (suc k) nz = absurd (nz refl)

row_clip : (n : ℕ) (row : ℕ → ℕ) (k : ℕ) → n ≤ k → row_up_to n row k ≡ 0
unfolding row_up_to
row_clip n row k l = rw (le-ltb k n l)

-- with any row whose references are in hand
filled : {z : Shape} {σ : State} {free : ℕ → List ℕ} (H : ℕ → ℕ) (r v : ℕ) (f d : ℕ → ℕ)
    → Local z σ (λ x. times (refs z r) f x + (ind x r + H x)) free
    → σ.count r ≡ 1
    → ((k : ℕ) → σ.kid r k ≡ 0)
    → ((k : ℕ) → refs z r ≤ k → f k ≡ 0)
    → ((k : ℕ) → (f k ≡ 0 → ⊥) → Below (kind_of r) v (kind_of (f k)) (σ.mark (f k)))
    → (kind_of r ≡ 0 → v < z.depths)
    → Filled z r v f d σ (fill_state σ r v f d) (λ x. ind x r + H x) free
filled {σ = σ} H r v f d I alone bare clip below deep =
    record {
      local = fill H r v f d I alone bare clip below deep;
      count_eq = refl;
      mark_is = upd_at σ.mark r v;
      kid_is = row_same σ.kid r f r refl;
      plain_is = row_same σ.plain r d r refl;
      grow = λ g e. Grow-fill r v f d g e;
      slots = same_fill σ r v f d;
    }

module _ {z : Shape} {a : List ℕ} {free : ℕ → List ℕ} (H : ℕ → ℕ) (r : ℕ) (l : Lent z a)
    (alone : (columns z a).count r ≡ 1) (bare : (k : ℕ) → (columns z a).kid r k ≡ 0) where
  pub fill_entry_means : (length next : ℕ) (x : Entry) → kind_of r ≡ 1
      → Local z (columns z a) (λ x. ind x next + (ind x r + H x)) free
      → ((next ≡ 0 → ⊥) → Below 1 length (kind_of next) ((columns z a).mark next))
      → Filled z r length (one next) (three x.hash x.key x.value) (columns z a)
      (columns z (fill_entry_words z a r length next x)) (λ r′. ind r′ r + H r′) free
  fill_entry_means length next x o I below =
      let σ = columns z a in
      let named = live_named I r (omega arith) in
      let e : refs z r ≡ 1 = refs_entry z r (Lent-refs l r named) o in
      rw (fill_entry_columns z a r length next x l named o)
      (filled H r length (one next) (three x.hash x.key x.value)
      (rehand _ (λ x nz. omega (arith, ap (λ (n : ℕ). times n (one next) x) e, times-one next x)) I) alone bare
      (λ k lk. one_clip next k (omega arith))
      (rw o (one_place (λ x. Below 1 length (kind_of x) (σ.mark x)) next below)) (λ y. absurd (omega arith)))

  pub fill_branch_means : (depth bitmap : ℕ) (row : ℕ → ℕ) → kind_of r ≡ 0
      → Local z (columns z a) (λ x. times z.degree (row_up_to z.degree row) x + (ind x r + H x)) free
      → ((k : ℕ) → (row_up_to z.degree row k ≡ 0 → ⊥)
      → Below 0 depth (kind_of (row_up_to z.degree row k)) ((columns z a).mark (row_up_to z.degree row k)))
      → depth < z.depths
      → Filled z r depth (row_up_to z.degree row) (one bitmap) (columns z a)
      (columns z (fill_branch_words z a r depth bitmap row)) (λ x. ind x r + H x) free
  fill_branch_means depth bitmap row o I below deep =
      let f = row_up_to z.degree row in
      let named = live_named I r (omega arith) in
      let e : refs z r ≡ z.degree = refs_branch z r (Lent-refs l r named) o in
      rw (fill_branch_columns z a r depth bitmap row l named o)
      (filled H r depth f (one bitmap)
      (rehand _ (λ x nz. omega (arith, ap (λ (n : ℕ). times n f x) e)) I) alone bare
      (λ k lk. row_clip z.degree row k (omega arith)) (rw o below) (λ y. deep))

-- PUT IN. The cell lives and holds nothing at the place; what is put there is in hand.
pub PutIn-means : {z : Shape} {a : List ℕ} {free : ℕ → List ℕ} (H : ℕ → ℕ) (r k v : ℕ)
    → Lent z a → k < refs z r → 0 < (columns z a).count r → (columns z a).kid r k ≡ 0
    → ((v ≡ 0 → ⊥) → Below (kind_of r) ((columns z a).mark r) (kind_of v) ((columns z a).mark v))
    → Local z (columns z a) (λ x. ind x v + H x) free
    → PutIn z r k v (columns z a) (columns z (put_in_words z a r k v)) H free
PutIn-means {z} {a} H r k v l lk live bare below I =
    let σ = columns z a in
    rw (put_in_columns z a r k v l lk)
    (record {
      local = put_in H r k v lk live bare below I;
      over = λ g. Grow-kid r k v g;
      grow = λ g e. Grow-put_in r k v g e;
      slots = same_kid σ r k v;
    })

-- TAKE OUT AND GIVE BACK
pub take_out_means : {z : Shape} {a : List ℕ} {H : ℕ → ℕ} {free : ℕ → List ℕ} (r k : ℕ)
    → Lent z a → k < refs z r → Local z (columns z a) H free
    → Shrunk z r (columns z a) (columns z (take_out_words z a r k)) (λ x. ind x ((columns z a).kid r k) + H x) free
take_out_means {z} {a} r k l lk I =
    let σ = columns z a in
    rw (take_out_columns z a r k l lk)
    (record { local = take_out r k lk I; shrink = Shrink-take_out σ r k 0; slots = same_kid σ r k 0 })

pub give_back_means : {z : Shape} {a : List ℕ} {free : ℕ → List ℕ} (H : ℕ → ℕ) (r : ℕ)
    → Lent z a → (columns z a).count r ≡ 1 → ((k : ℕ) → (columns z a).kid r k ≡ 0)
    → Local z (columns z a) (λ x. ind x r + H x) free
    → Shrunk z r (columns z a) (columns z (give_back_words z a r)) H (on_chain free r)
    × ((columns z (give_back_words z a r)).count r ≡ 0)
give_back_means {z} {a} H r l alone bare I =
    let σ = columns z a in
    let τ = give_back_columns z a r l (live_named I r (omega arith)) in (
      rw τ (record { local = give_back H r alone bare I; shrink = Shrink-give σ r; slots = same_give σ r }),
      ap (λ (s : State). s.count r) τ ∙ upd_at σ.count r 0,
    )

-- HOLD AND LET GO
slotted : {z : Shape} {σ : State} {H : ℕ → ℕ} {free : ℕ → List ℕ} (s h r n : ℕ)
    → Local z (set_slot σ s h r n) H free → Slotted z s h r n σ (set_slot σ s h r n) H free
slotted {σ = σ} s h r n I =
    record {
      local = I;
      grow = Grow-slot σ s h r n;
      shrink = λ x. Shrink-slot x σ s h r n;
      held_is = upd_at σ.held s h;
      root_is = upd_at σ.root s r;
      size_is = upd_at σ.size s n;
      others = slot_other σ s h r n;
    }

pub hold_means : {z : Shape} {a : List ℕ} {free : ℕ → List ℕ} (H : ℕ → ℕ) (s r n : ℕ)
    → Lent z a → s < z.slots → ((columns z a).held s ≡ 1 → ⊥) → Local z (columns z a) (λ x. ind x r + H x) free
    → Slotted z s 1 r n (columns z a) (columns z (set_slot_words z a s 1 r n)) H free
hold_means {z} {a} H s r n l ls away I =
    rw (slot_store z a l.long l.allowed.wide s 1 r n ls) (slotted s 1 r n (hold H s r n ls away I))

pub let_go_means : {z : Shape} {a : List ℕ} {H : ℕ → ℕ} {free : ℕ → List ℕ} (s : ℕ)
    → Lent z a → s < z.slots → Local z (columns z a) H free
    → Slotted z s 0 0 0 (columns z a) (columns z (set_slot_words z a s 0 0 0)) (λ x. ind x ((columns z a).root s) + H x) free
let_go_means {z} {a} s l ls I =
    rw (slot_store z a l.long l.allowed.wide s 0 0 0 ls) (slotted s 0 0 0 (let_go s ls I))

-- Each cheat that document 01 names contradicts the contracts: to refuse always, to have one fixed answer, to write nothing, to invent
-- the counts, and to copy everything. To pretend from the second insert on contradicts `every_insert` (UpdateLaws).
use Prim.Native.Nat.{ℕ, suc, ◌<◌}
use mathlib.Core.Path.{◌≡◌, refl, sym, ap, ◌∙◌, subst}
use mathlib.Core.List.{List}
use native.Mathlib.Omega.{arith}
use Rattle.segments.specs.Segments.{segment}
use Rattle.layout.specs.declared.Shape.{Shape}
use Rattle.layout.specs.Header.{Header}
use Rattle.layout.specs.Columns.{word_of_slot}
use Rattle.trie.specs.Entry.{Word64, absent}
use Rattle.trie.specs.Trie.{Map, size, get}
use Rattle.trie.specs.Cells.{Taken}
use Rattle.trie.proofs.CellLaws.{insert_entries_new}
use Rattle.arena.specs.Sound.{Sound}
use Rattle.arena.specs.Holds.{Holds}
use Rattle.cells.proofs.SlotLaws.{free_slot-Lowest}
use Rattle.chains.specs.Chains.{an_entry}
use Rattle.replies.specs.declared.Refusal.TheVariants as Why
use Rattle.replies.specs.Answers.{update_answer, took, cell_counts}
use Rattle.makes.specs.Terms.{Formats}
use Rattle.updates.specs.Terms.{Inserts}
use Rattle.settled.specs.Cost.{Costs}
use Rattle.promises.specs.History.{makes_new, inserts, Meets, no_call, then, History}
use Rattle.promises.specs.Spends.{Spends}
use Rattle.promises.specs.Program.{Program}
use Rattle.settled.proofs.Numbers.{Number-once}
use Rattle.promises.proofs.SpendLaws.{spends}
use Rattle.promises.proofs.DoneLaws.{insert_Done}
use Rattle.promises.proofs.StoryLaws.{lent, Fresh, Ready, Has, format_must, new_must, insert_must, not_held_must, get_must, remove_must, drop_must}
use Rattle.std.specs.Prelude.{Result, Ok, Err}
use Rattle.replies.specs.declared.Refusal.{Refusal}
use Rattle.replies.specs.declared.Updated.{Updated}
use Rattle.replies.specs.declared.CellCounts.{CellCounts}

-- THE STORY, told by a program
module _ (P : Program) where
  abbrev formatted : List ℕ
  formatted = (P.format lent 16 4 4 4).words

  fresh : Fresh formatted
  fresh = (format_must (P.format lent 16 4 4 4).meets).1

  abbrev made : List ℕ
  made = (P.new_edition formatted).words

  ready : Ready made
  ready = (new_must fresh (P.new_edition formatted).meets).1

  -- the story's entry, with value 0 or 1
  pub word : (v : ℕ) → v < 2 → Word64 (an_entry 1 2 v)
  word v l = record { hash_fits = omega arith; key_fits = omega arith; value_fits = omega arith }

  module _ (v : ℕ) (l : v < 2) where
    abbrev filled : List ℕ
    filled = (P.insert made 0 1 2 v (word v l)).words

    pub told_insert : ((P.insert made 0 1 2 v (word v l)).answer ≡ took 1 1 1) × Has v filled
    told_insert = insert_must v ready (P.insert made 0 1 2 v (word v l)).meets

    value : (P.get filled 1 1 2).answer ≡ Ok v
    value = get_must told_insert.1 (P.get filled 1 1 2).meets.0

  -- the story is a history
  pub story_past : (v : ℕ) (l : v < 2) → History (filled v l)
  unfolding Meets
  story_past v l =
      record {
        lent = lent;
        degree = 16;
        branches = 4;
        entries = 4;
        editions = 4;
        formatted = formatted;
        format =
            subst (λ (r : Result (Unit {0}) Refusal). Formats lent 16 4 4 4 r formatted) (format_must (P.format lent 16 4 4 4).meets).0
            (P.format lent 16 4 4 4).meets;
        calls = _;
        made =
            then formatted made (filled v l) (makes_new (P.new_edition formatted).answer) _ (P.new_edition formatted).meets
            (then made (filled v l) (filled v l) (inserts 0 1 2 v (P.insert made 0 1 2 v (word v l)).answer) _
            (P.insert made 0 1 2 v (word v l)).meets (no_call (filled v l)));
      }

  zeroth : 0 < 2
  zeroth = omega arith

  has : Has 0 (filled 0 zeroth)
  has = (told_insert 0 zeroth).1

  -- REFUSING ALWAYS
  pub refusing_formats : ((a : List ℕ) (g b n s : ℕ) → (P.format a g b n s).answer ≡ (Ok tt) → ⊥) → ⊥
  refusing_formats cheat = cheat lent 16 4 4 4 (format_must (P.format lent 16 4 4 4).meets).0

  pub refusing_new_editions : ((a : List ℕ) (s : ℕ) → (P.new_edition a).answer ≡ Ok s → ⊥) → ⊥
  refusing_new_editions cheat = cheat formatted 0 (new_must fresh (P.new_edition formatted).meets).0

  pub refusing_inserts :
      ((a : List ℕ) (e h k v : ℕ) (w : Word64 (an_entry h k v)) (s x y : ℕ) → (P.insert a e h k v w).answer ≡ took s x y → ⊥) → ⊥
  refusing_inserts cheat = cheat made 0 1 2 0 (word 0 zeroth) 1 1 1 (told_insert 0 zeroth).0

  pub refusing_removes : ((a : List ℕ) (e h k s x y : ℕ) → (P.remove a e h k).answer ≡ took s x y → ⊥) → ⊥
  refusing_removes cheat = let (s, x, y, d) = remove_must has (P.remove _ 1 1 2).meets in cheat _ 1 1 2 s x y d

  pub refusing_drops : ((a : List ℕ) (e x y : ℕ) → (P.drop a e).answer ≡ cell_counts x y → ⊥) → ⊥
  refusing_drops cheat = let (x, y, d) = drop_must has (P.drop _ 1).meets in cheat _ 1 x y d

  pub refusing_gets : ((a : List ℕ) (e h k v : ℕ) → (P.get a e h k).answer ≡ Ok v → ⊥) → ⊥
  refusing_gets cheat = cheat (filled 0 zeroth) 1 1 2 0 (value 0 zeroth)

  -- ONE FIXED ANSWER. An edition that is not held is refused, and what was put in is found, 0 as well as 1.
  pub fixed_inserts : (r : Result Updated Refusal)
      → ((a : List ℕ) (e h k v : ℕ) (w : Word64 (an_entry h k v)) → (P.insert a e h k v w).answer ≡ r) → ⊥
  fixed_inserts r cheat =
      let w = word 0 zeroth in
      let other = not_held_must 0 ready (P.insert made 3 1 2 0 w).meets in
      let q : took 1 1 1 ≡ Err Why.NoSuchEdition
      = sym (told_insert 0 zeroth).0 ∙ cheat made 0 1 2 0 w ∙ sym (cheat made 3 1 2 0 w) ∙ other in
      omega (arith, ap (λ (u : Result Updated Refusal). (update_answer u).number) q)

  pub fixed_gets : (r : Result ℕ Refusal) → ((a : List ℕ) (e h k : ℕ) → (P.get a e h k).answer ≡ r) → ⊥
  fixed_gets r cheat =
      let one : 1 < 2 = omega arith in
      let q : ◌≡◌ {A = Result ℕ Refusal} (Ok 0) (Ok 1)
      = sym (value 0 zeroth) ∙ cheat (filled 0 zeroth) 1 1 2 ∙ sym (cheat (filled 1 one) 1 1 2) ∙ value 1 one in
      let m : ◌≡◌ {A = ℕ} 0 1 = cc in
      omega arith

-- AN INSERT THAT WRITES NOTHING
pub Inserts-write : {a b : List ℕ} → Sound a → (e h k v s x y : ℕ) → Inserts a e h k v (took s x y) b → b ≡ a → ⊥
Inserts-write {a} {b} S e h k v s x y C same =
    let z = S.shape in
    let U = insert_Done a b S z S.header e h k v s x y C in
    (free_slot-Lowest z a s (C.lowest z S.header s x y refl)).not_held
    (ap (λ (w : List ℕ). word_of_slot z w s 0) (sym same) ∙ U.new.holds.held)

-- INVENTED COUNTS: no other numbers count what the new edition shares with no other
pub invented_counts : {a b : List ℕ} → Sound a → (z : Shape) → Header a z → (e h k v s x y : ℕ) → Inserts a e h k v (took s x y) b
    → (x' y' : ℕ) → Costs z b s x' y' → (x' ≡ x) × (y' ≡ y)
unfolding Spends Meets
invented_counts {a} {b} S z head e h k v s x y C x' y' K =
    let N = (spends (inserts e h k v (took s x y)) a b S z head C).new.costs in
    (Number-once K.own_branches N.own_branches, Number-once K.own_entries N.own_entries)

-- A MAP THAT COPIES EVERYTHING would take a cell for each entry and one for the new one
pub copying_everything : {a b : List ℕ} → Sound a → (z : Shape) → Header a z → (e h k v s x y : ℕ) (m : Map ℕ) → Holds z a e m
    → get (segment z.bits) z.depths h k m ≡ absent → 0 < size m → Inserts a e h k v (took s x y) b → y ≡ suc (size m) → ⊥
copying_everything S z head e h k v s x y m holds none some C all =
    let E = C.new S z head m holds s x y refl in
    omega (
      arith,
      ap (λ (t : Taken). t.entries) E.counts,
      insert_entries_new (segment z.bits) z.depths E.branch_names E.entry_names m (an_entry h k v) none,
      all,
      some,
    )

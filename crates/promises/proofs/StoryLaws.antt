-- A short story that the contracts settle from its first word to its last: 124 words of 0 are formatted, a new edition is made in them,
-- hash 1 and key 2 are put into it with a value, found, taken out again, and the edition that had them is dropped. None of these calls
-- can be refused.
use Prim.Native.Nat.{ℕ, ◌≤◌, ◌<◌}
use mathlib.Core.Path.{◌≡◌, refl, sym, ap, ◌∙◌, subst}
use mathlib.Core.List.{List}
use native.Mathlib.Omega.{arith}
use lib.ListN.{length}
use Rattle.counts.proofs.CountLaws.{upd_other}
use Rattle.segments.specs.Segments.{table, find, row_of, segment}
use Rattle.layout.specs.declared.Shape.{Shape}
use Rattle.layout.specs.Layout.{total, cells_of}
use Rattle.layout.specs.Header.{Header, within, are_sizes_fit, shape, shape_in, shape_of, header_of}
use Rattle.layout.specs.Columns.{State, word_of_slot, by_kind, columns, set_slot}
use Rattle.layout.specs.Blank.{zeros, blank}
use Rattle.layout.proofs.WriteLaws.{zeros-length}
use Rattle.layout.proofs.HeaderLaws.{Header-says, Header-once, Header-Lent, Fits-says}
use Rattle.layout.proofs.BlankLaws.{blank_right}
use Rattle.layout.proofs.ColumnLaws.{slot_store}
use Rattle.trie.specs.Entry.{matches, got, if_got}
use Rattle.trie.specs.Trie as T
use Rattle.trie.specs.Trie.{Map, empty, get}
use Rattle.trie.specs.Cells.{Taken, ahead, before, branches_on, stand_before, insert_takes, left_takes}
use Rattle.trie.proofs.CellLaws.{insert_entries_new}
use Rattle.arena.specs.Sound.{Sound}
use Rattle.arena.specs.Holds.{Holds}
use Rattle.arena.proofs.BlankArena.{blank-columns}
use Rattle.cells.specs.Slots.{free_slot}
use Rattle.cells.proofs.KeptLaws.{Kept-Header, slots_kept}
use Rattle.cells.proofs.SlotLaws.{free_start, free_next, free_here}
use Rattle.chains.specs.Chains.{an_entry}
use Rattle.grafts.proofs.CaseLaws.{is_there_lem}
use Rattle.replies.specs.declared.Refusal.TheVariants as Why
use Rattle.replies.specs.Answers.{done, unit_answer, number_answer, took}
use Rattle.replies.specs.Outcomes.{Outcome, leaves}
use Rattle.replies.proofs.AnswerLaws.{header_Right}
use Rattle.replies.proofs.Tables.{AllHeld, Held, number}
use Rattle.makes.specs.Calls.{new_to}
use Rattle.makes.specs.Terms.{Formats, MakesNew}
use Rattle.makes.proofs.FormatLaws.{format_done}
use Rattle.makes.proofs.EditionLaws.{new_At}
use Rattle.grants.specs.Terms.{NewEdition}
use Rattle.updates.specs.Terms.{insert_step, Inserts}
use Rattle.updates.proofs.MapLaws.{empty_branches}
use Rattle.removes.specs.Terms.{Removes}
use Rattle.removes.proofs.ExactLaws as remove
use Rattle.drops.specs.Terms.{Drops}
use Rattle.drops.proofs.NumberLaws.{drop_numbered}
use Rattle.looks.specs.Calls.{value_found}
use Rattle.looks.specs.Terms.{Gets}
use Rattle.replies.proofs.AnswerLaws.{number_once}
use Rattle.promises.proofs.AnswerLaws.{format_is, Refused-is, IsDone, IsFreed, drop_is}
use Rattle.promises.proofs.ToldLaws.{insert_told}
use Rattle.promises.proofs.RoomLaws.{used_or_free, insert_Rooms, remove_Rooms}
use Rattle.std.specs.Prelude.{Some, Result, Ok, Err}
use Rattle.replies.specs.declared.Refusal.{Refusal}
use Rattle.replies.specs.declared.Updated.{Updated}
use Rattle.replies.specs.declared.CellCounts.{CellCounts}

-- THE WORDS AND THE SHAPE: degree 16, so 4 bits and 16 depths; 12 + 3·4 + 4·19 + 6·4 = 124
abbrev pub lent : List ℕ
lent = zeros 124

abbrev pub ours : Shape
ours = shape 16 4 16 4 4 4

fits : shape_of 16 4 4 4 ≡ Ok ours
unfolding shape_of shape_in row_of find table are_sizes_fit within
fits = refl

long : total ours ≤ length lent
long = omega (arith, zeros-length 124)

-- FORMAT
pub record Fresh (a : List ℕ) : Type 0 where
  pub sound : Sound a
  pub header : Header a ours
  pub unheld : (i : ℕ) → word_of_slot ours a i 0 ≡ 0
  pub unused : (k : ℕ) → by_kind a 10 k ≡ 0

pub format_must : {r : Result (Unit {0}) Refusal} {b : List ℕ} → Formats lent 16 4 4 4 r b → (r ≡ (Ok tt)) × Fresh b
format_must {r} {b} C =
    let q : leaves (unit_answer r) b ≡ leaves (done 0 0) (blank ours lent) = C.outcome ∙ format_done lent _ ours fits long in
    let e : b ≡ blank ours lent = ap (λ (o : Outcome). o.words) q in
    let w = (Fits-says 16 4 4 4 ours fits).allowed in
    let d : r ≡ (Ok tt) = format_is r (ap number q) in (
      d,
      record {
        sound = C.sound d;
        header = rw e (blank_right ours lent w refl long);
        unheld = λ i. rw e ((blank-columns ours lent w).no_held i);
        unused = λ k. rw e ((blank-columns ours lent w).no_used k);
      },
    )

-- NEW EDITION
pub record Ready (a : List ℕ) : Type 0 where
  pub sound : Sound a
  pub header : Header a ours
  pub holds : Holds ours a 0 empty
  pub unheld : (i : ℕ) → 0 < i → word_of_slot ours a i 0 ≡ 0
  pub unused : (k : ℕ) → by_kind a 10 k ≡ 0

pub new_must : {a b : List ℕ} {r : Result ℕ Refusal} → Fresh a → MakesNew a r b → (r ≡ Ok 0) × Ready b
unfolding new_to
new_must {a} {b} {r} A C =
    let h = A.header in
    let free : free_slot ours a ≡ Some 0 = free_start ours a ∙ free_here ours a 0 4 (omega arith) (λ e. omega (arith, A.unheld 0)) in
    let q : leaves (number_answer r) b ≡ leaves (done 0 0) (new_to ours a 0)
    = C.outcome ∙ header_Right (header_of a) _ _ ours ((Header-says a ours).1 h) ∙ new_At ours a 0 free in
    let e : b ≡ new_to ours a 0 = ap (λ (o : Outcome). o.words) q in
    let after : columns ours b ≡ set_slot (columns ours a) 0 1 0 0
    = ap (columns ours) e ∙ slot_store ours a h.long h.allowed.wide 0 1 0 0 (omega arith) in
    let d : r ≡ Ok 0 = number_once r (Ok 0) (ap (λ (o : Outcome). o.answer) q) in (
      d,
      record {
        sound = C.sound A.sound;
        header = rw e (Kept-Header (slots_kept ours a 0 1 0 0 h.allowed.wide (omega arith)) h);
        holds = C.new ours h 0 d;
        unheld =
            λ i l.
            ap (λ (σ : State). σ.held i) after
            ∙ upd_other (columns ours a).held 0 1 i (λ x. omega arith)
            ∙ A.unheld i;
        unused = λ k. ap (λ (σ : State). σ.used k) after ∙ A.unused k;
      },
    )

-- INSERT
abbrev first : ℕ → (ℕ → ℕ) → (ℕ → ℕ) → Map ℕ
first v b f = T.insert (segment 4) 16 b f (an_entry 1 2 v) empty

-- it takes a branch and an entry
takes_branch : {a : List ℕ} → Header a ours → (v : ℕ) (b f : ℕ → ℕ)
    → (insert_takes (segment 4) 16 b f (an_entry 1 2 v) empty).branches ≡ 1
takes_branch {a} h v b f = empty_branches (Header-Lent a ours h) b f (an_entry 1 2 v)

takes_entry : (v : ℕ) (b f : ℕ → ℕ) → (insert_takes (segment 4) 16 b f (an_entry 1 2 v) empty).entries ≡ 1
takes_entry v b f = insert_entries_new (segment 4) 16 b f empty (an_entry 1 2 v) (unfold get in refl)

pub record Has (v : ℕ) (a : List ℕ) : Type 0 where
  pub sound : Sound a
  pub header : Header a ours
  pub branch_names : ℕ → ℕ
  pub entry_names : ℕ → ℕ
  pub holds : Holds ours a 1 (first v branch_names entry_names)
  pub unheld : word_of_slot ours a 2 0 ≡ 0

module _ {a b : List ℕ} {r : Result Updated Refusal} (v : ℕ) (A : Ready a) (C : Inserts a 0 1 2 v r b) where
  insert_done : IsDone r
  insert_done =
      let h = A.header in
      let room : AllHeld ours a → ⊥ = λ all. omega (arith, all 1 (omega arith), A.unheld 1 (omega arith)) in
      let R = insert_Rooms a A.sound ours h 0 1 2 v empty A.holds room r b C in
      let (s, d) =
      R.done.1 (
        omega (arith, A.unused 0, takes_branch h v (λ t. t) (λ j. j)),
        omega (arith, A.unused 1, takes_entry v (λ t. t) (λ j. j)),
      ) in
      (s, _, _, d)

  slot_one : free_slot ours a ≡ Some 1
  slot_one =
      free_next ours a 0 (omega arith) A.holds.held (free_start ours a)
      ∙ free_here ours a 1 3 (omega arith) (λ e. omega (arith, A.unheld 1 (omega arith)))

  insert_is : (s x y : ℕ) → r ≡ took s x y → NewEdition ours a b (insert_step (an_entry 1 2 v) ours) empty s x y
      → (r ≡ took 1 1 1) × Has v b
  insert_is s x y d E =
      let h = A.header in
      let at : Some s ≡ Some 1 = sym (C.lowest ours h s x y d) ∙ slot_one in
      let is : s ≡ 1 = cc in
      let xs : x ≡ 1 = sym (ap (λ (t : Taken). t.branches) E.counts) ∙ takes_branch h v E.branch_names E.entry_names in
      let ys : y ≡ 1 = sym (ap (λ (t : Taken). t.entries) E.counts) ∙ takes_entry v E.branch_names E.entry_names in
      let q : T.updated (first v E.branch_names E.entry_names) ≡ T.updated E.result = E.makes in
      let m : E.result ≡ first v E.branch_names E.entry_names = cc in (
        d ∙ (λ i. took (is i) (xs i) (ys i)),
        record {
          sound = C.sound A.sound;
          header = Kept-Header (C.inside ours h) h;
          branch_names = E.branch_names;
          entry_names = E.entry_names;
          holds =
              subst (λ (w : Map ℕ). Holds ours b 1 w) m (subst (λ (i : ℕ). Holds ours b i E.result) is E.holds);
          unheld = C.others A.sound ours h s x y d 2 0 (λ e. omega arith) (omega arith) ∙ A.unheld 2 (omega arith);
        },
      )

  pub insert_must : (r ≡ took 1 1 1) × Has v b
  insert_must =
      let (s, x, y, d) = insert_done in
      insert_is s x y d (C.new A.sound ours A.header empty A.holds s x y d)

-- and into an edition that is not there it cannot be
pub not_held_must : {a b : List ℕ} {r : Result Updated Refusal} (v : ℕ) → Ready a → Inserts a 3 1 2 v r b → r ≡ Err Why.NoSuchEdition
not_held_must {a} {b} {r} v A C =
    let out : Held ours a 3 → ⊥ = λ held. omega (arith, held.1, A.unheld 3 (omega arith)) in
    let none : (y : Shape) → Header a y → Held y a 3 → Holds y a 3 empty
    = λ y head held. absurd (out (subst (λ (x : Shape). Held x a 3) (Header-once a y ours head A.header) held)) in
    let T = insert_told a A.sound 3 empty none 1 2 v r b C in
    Refused-is r Why.NoSuchEdition ((T.number.exactly ours A.header 5).1 out)

-- what the edition has, and what taking it out takes
first_has : (v : ℕ) (b f : ℕ → ℕ) → get (segment 4) 16 1 2 (first v b f) ≡ got v
unfolding get T.insert T.chain T.child T.on_found T.find matches segment
first_has v b f = refl

first_takes : (v : ℕ) (b f : ℕ → ℕ)
    → remove.needs ours 1 2 (first v b f) ≡ record { branches = 0; entries = 0 }
unfolding T.remove T.insert T.chain T.child T.on_found T.find matches segment if_got
    T.remove_node T.list_remove_first T.copied T.settle T.is_empty T.take_out T.compress T.tidy left_takes branches_on stand_before before ahead
first_takes v b f = refl

pub get_must : {a : List ℕ} {r : Result ℕ Refusal} {v : ℕ} → Has v a → Gets a 1 1 2 r → r ≡ Ok v
get_must {a} {r} {v} A C =
    number_once r (Ok v)
    (C.shown ours A.header _ A.holds ∙ ap value_found (first_has v A.branch_names A.entry_names))

pub remove_must : {a b : List ℕ} {r : Result Updated Refusal} {v : ℕ} → Has v a → Removes a 1 1 2 r b → IsDone r
unfolding cells_of
remove_must {a} {b} {r} {v} A C =
    let there = is_there_lem v refl (first_has v A.branch_names A.entry_names) in
    let t = first_takes v A.branch_names A.entry_names in
    let room : AllHeld ours a → ⊥ = λ all. omega (arith, all 2 (omega arith), A.unheld) in
    let R = remove_Rooms a A.sound ours A.header 1 1 2 _ A.holds there room r b C in
    let (s, d) =
    R.done.1 (
      omega (arith, used_or_free a A.sound ours A.header 0 (omega arith), ap (λ (x : Taken). x.branches) t),
      omega (arith, used_or_free a A.sound ours A.header 1 (omega arith), ap (λ (x : Taken). x.entries) t),
    ) in
    (s, _, _, d)

pub drop_must : {a b : List ℕ} {r : Result CellCounts Refusal} {v : ℕ} → Has v a → Drops a 1 r b → IsFreed r
drop_must {a} {b} {r} A C =
    drop_is r
    (ap number C.outcome
    ∙ ((drop_numbered a 1).exactly ours A.header 0).1 (A.holds.slot, A.holds.held))

-- The contracts can be kept: what the calls' own definitions compute keeps them. So what is said of every program is said of something.
use Prim.Native.Nat.{ℕ, ◌<◌}
use mathlib.Core.Path.{◌≡◌, refl, sym, ap}
use mathlib.Core.Bool.{Bool, true, false, cond}
use mathlib.Core.List.{List}
use native.Mathlib.Omega.{arith}
use lib.Dec.{leb, eqb}
use lib.ListN.{length}
use Rattle.cases.proofs.Cases.{split}
use Rattle.trie.specs.Entry.{Got, absent, got}
use Rattle.trie.specs.declared.Entry.{Entry}
use Rattle.layout.specs.declared.Shape.{Shape}
use Rattle.layout.specs.Layout.{total}
use Rattle.layout.specs.Header.{shape_of, header_of}
use Rattle.cells.specs.Mirrors.{Wrote}
use Rattle.cells.specs.Slots.{held_slot, free_slot}
use Rattle.chains.specs.Chains.{an_entry}
use Rattle.replies.specs.declared.Refusal.{Refusal}
use Rattle.replies.specs.declared.Refusal.TheVariants as Why
use Rattle.replies.specs.Answers.{Answer, refused, unit_answer, number_answer, update_answer, cells_answer, took, cell_counts}
use Rattle.replies.specs.Outcomes.{Outcome, leaves, on_header, on_slot, on_wrote}
use Rattle.grants.specs.Rooms.{hold_to}
use Rattle.grants.proofs.CaseLaws.{Update, update_of, either_way, by_root}
use Rattle.makes.specs.Calls.{format_in, format_of, new_edition_in, new_edition_of}
use Rattle.makes.proofs.FormatLaws.{formats}
use Rattle.makes.proofs.EditionLaws.{makes_new}
use Rattle.updates.specs.declared.Plan.{Plan}
use Rattle.updates.specs.Calls.{plan_of, write_to, insert_of}
use Rattle.updates.proofs.TestLaws.{writing}
use Rattle.updates.proofs.UpdateLaws.{inserts}
use Rattle.removes.specs.declared.Cut.{Cut}
use Rattle.removes.specs.Calls.{the_cut, cut_of, lacks, chain_to, cut_to, remove_of}
use Rattle.removes.proofs.CaseLaws.{removing}
use Rattle.removes.proofs.RemoveLaws.{removes}
use Rattle.drops.specs.Calls.{free_in, drop_in, drop_of}
use Rattle.drops.proofs.DropLaws.{drops}
use Rattle.looks.specs.Calls.{value_found, root_word, get_of}
use Rattle.looks.proofs.LookLaws.{get_not_held, get_by, gets}
use Rattle.promises.specs.History.{History}
use Rattle.promises.specs.Program.{Did, Program}
use Rattle.promises.proofs.StoryLaws.{Has}
use Rattle.promises.proofs.CheatLaws.{told_insert, story_past}
use Rattle.std.specs.Prelude.{Option, Some, None, Result, Ok, Err}
use Rattle.layout.specs.declared.Misfit.{Misfit}
use Rattle.layout.specs.declared.Misfit.TheVariants.{BadDegree, BadSizes}
use Rattle.replies.specs.declared.Updated.{Updated}
use Rattle.replies.specs.declared.CellCounts.{CellCounts}

-- WHAT HOLDS IN EVERY CASE HOLDS
module _ {A : Type 0} (P : A → Type 0) {x : A} where
  by_test : (b : Bool) {y : A} → P x → P y → P (cond b x y)
  by_test true p q = p
  by_test false p q = q

  by_header : (y : Option Shape) {f : Shape → A} → P x → ((z : Shape) → P (f z)) → P (on_header y x f)
  unfolding on_header
  by_header None p q = p
  by_header (Some z) p q = q z

by_slot : (P : Outcome → Type 0) (y : Option ℕ) {x : Outcome} {f : ℕ → Outcome} → P x → ((s : ℕ) → P (f s)) → P (on_slot y x f)
unfolding on_slot
by_slot P None p q = p
by_slot P (Some s) p q = q s

by_wrote : (P : Outcome → Type 0) (w : Wrote) (why : Refusal) {f : ℕ → List ℕ → Outcome} → P (leaves (refused why) w.words)
    → ((at : ℕ) (b : List ℕ) → P (f at b)) → P (on_wrote w why f)
unfolding on_wrote
by_wrote P w why p q = by_test P (eqb w.at 0) p (q w.at w.words)

-- an outcome's answer is that of some case
record Says {A : Type 0} (f : A → Answer) (o : Outcome) : Type 0 where
  pub case : A
  pub is : f case ≡ o.answer

says : {A : Type 0} {f : A → Answer} {b : List ℕ} (r : A) → Says f (leaves (f r) b)
says r = record { case = r; is = refl }

-- so the contract is kept with it and the outcome's words
did : {A : Type 0} {f : A → Answer} {C : A → List ℕ → Type 0} (o : Outcome) → Says f o
    → ((r : A) (b : List ℕ) → leaves (f r) b ≡ o → C r b) → Did A C
did o s law =
    record { answer = s.case; words = o.words; meets = law s.case o.words (λ i. leaves (s.is i) o.words) }

-- EACH CALL
format_Says : (a : List ℕ) (y : Result Shape Misfit) → Says unit_answer (format_in a y)
unfolding format_in
format_Says a (Ok z) = by_test (Says unit_answer) (leb (total z) (length a)) (says (Ok tt)) (says (Err Why.SliceTooShort))
format_Says a (Err BadDegree) = says (Err Why.BadDegree)
format_Says a (Err BadSizes) = says (Err Why.BadSizes)

new_Says : (a : List ℕ) → Says number_answer (new_edition_of a)
unfolding new_edition_in
new_Says a =
    by_header (Says number_answer) (header_of a) (says (Err Why.Damaged))
    (λ z. by_slot (Says number_answer) (free_slot z a) (says (Err Why.NoSlot)) (λ s. says (Ok s)))

update_Says : (a : List ℕ) (e : ℕ) (u : Shape → Update) → ((z : Shape) (s : ℕ) → Says update_answer ((u z).does s))
    → Says update_answer (update_of a e u)
update_Says a e u does =
    by_header (Says update_answer) (header_of a) (says (Err Why.Damaged))
    (λ z. either_way z a e (u z) (Says update_answer) (λ why. says (Err why)) (λ held there s free fit_0 fit_1. does z s))

hold_Says : (z : Shape) (s size branches entries : ℕ) (w : Wrote) → Says update_answer (hold_to z s size branches entries w)
hold_Says z s size branches entries w =
    by_root z s size branches entries w (Says update_answer) (says (Err Why.NoBranchCells)) (says (took s branches entries))

write_Says : (z : Shape) (a : List ℕ) (x : Entry) (p : Plan) (s : ℕ) → Says update_answer (write_to z a x p s)
unfolding write_to
write_Says z a x p s = by_wrote (Says update_answer) _ Why.NoEntryCells (says (Err Why.NoEntryCells)) (λ leaf b. hold_Says z s _ _ _ _)

chain_Says : (z : Shape) (h : ℕ) (p : Cut) (s : ℕ) (w : Wrote) → Says update_answer (chain_to z h p s w)
unfolding chain_to
chain_Says z h p s w =
    by_test (Says update_answer) (lacks w.at p.tail.count) (says (Err Why.NoEntryCells)) (hold_Says z s _ _ _ _)

cut_Says : (z : Shape) (a : List ℕ) (h : ℕ) (p : Cut) (s : ℕ) → Says update_answer (cut_to z a h p s)
unfolding cut_to
cut_Says z a h p s =
    by_test (Says update_answer) p.empty (says (took s p.branches p.tail.count)) (chain_Says z h p s _)

drop_Says : (a : List ℕ) (e : ℕ) → Says cells_answer (drop_of a e)
unfolding drop_in free_in
drop_Says a e =
    by_header (Says cells_answer) (header_of a) (says (Err Why.Damaged))
    (λ z. by_test (Says cells_answer) (held_slot z a e) (says (cell_counts _ _)) (says (Err Why.NoSuchEdition)))

-- a get leaves the words as they are; it answers what was found
by_got : (y : Got) {x : Answer} {a : List ℕ} → ((g : Got) → y ≡ g → x ≡ value_found g) → Says number_answer (leaves x a)
by_got absent is = record { case = Err Why.Absent; is = sym (is absent refl) }
by_got (got v) is = record { case = Ok v; is = sym (is (got v) refl) }

get_Says : (a : List ℕ) (e h k : ℕ) → Says number_answer (leaves (get_of a e h k) a)
get_Says a e h k =
    by_header (λ x. Says number_answer (leaves x a)) (header_of a) (says (Err Why.Damaged))
    (λ z.
    split (held_slot z a e)
    (λ held. by_got _ (λ g. get_by z a e h k (root_word z a e) g held refl))
    (λ not. record { case = Err Why.NoSuchEdition; is = sym (get_not_held z a e h k not) }))

-- what the calls' own definitions compute keeps the contracts
pub a_program : Program
a_program =
    record {
      format = λ a g n m s. did (format_of a g n m s) (format_Says a (shape_of g n m s)) (formats a g n m s);
      new_edition = λ a. did (new_edition_of a) (new_Says a) (makes_new a);
      insert =
          λ a e h k v fits.
          did (insert_of a e h k v)
          (update_Says a e (writing a e h k v false) (λ z. write_Says z a (an_entry h k v) (plan_of z a e h k))) (inserts a e h k v fits);
      remove =
          λ a e h k.
          did (remove_of a e h k) (update_Says a e (removing a e h k) (λ z. cut_Says z a h (the_cut (cut_of z a e h k)))) (removes a e h k);
      drop = λ a e. did (drop_of a e) (drop_Says a e) (drops a e);
      get =
          λ a e h k.
          did (leaves (get_of a e h k) a) (get_Says a e h k)
          (λ r b q. (gets a e h k r (ap (λ (o : Outcome). o.answer) q), ap (λ (o : Outcome). o.words) q));
    }

-- so there are histories, and one of them has put an entry in
pub a_History : (b : List ℕ) × History b × Has 0 b
a_History = let l : 0 < 2 = omega arith in (_, story_past a_program 0 l, (told_insert a_program 0 l).1)

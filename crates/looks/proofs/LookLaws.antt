-- What get, list and equal answer. Their definitions go by what the words lead to, whatever these are; on an edition that is what
-- the trie's definitions find, list and compare, and in a sound arena every held slot holds an edition.
use Rattle.std.proofs.Common.{◌≡◌, ℕ, zero, suc, ◌<◌, ◌≤◌, Bool, true, false, List, length, Some, None, Option, Result, ok_or, sym, ap, ◌∙◌, ⊎_elim, arith, le-ltb, lt-ltb, eq-eqb, ne_eqb}
use mathlib.Core.Path.{fun_ext}
use Rattle.cases.proofs.Cases.{split, eq?}
use Rattle.segments.specs.Segments.{row, segment}
use Rattle.trie.specs.declared.Entry.{Entry}
use Rattle.trie.specs.Entry.{Got, Word64}
use Rattle.trie.specs.Trie.{Map, size, listing, get, answers, every, equal}
use Rattle.trie.specs.Names.{forget}
use Rattle.trie.specs.Built.{Built}
use Rattle.trie.specs.Canon.{Canonical}
use Rattle.trie.proofs.DegreeLaws.{Built-iff_Canonical}
use Rattle.trie.proofs.EqualLaws.{equal_reflexive}
use Rattle.layout.specs.declared.Shape.{Shape}
use Rattle.layout.specs.Header.{Header, header_of}
use Rattle.layout.specs.Columns.{columns}
use Rattle.layout.proofs.HeaderLaws.{Header-says}
use Rattle.arena.specs.Sound.{Sound}
use Rattle.arena.proofs.Unique.{map_one}
use Rattle.arena.proofs.Equivalent as Arena
use Rattle.cells.specs.Slots.{held_slot}
use Rattle.cells.proofs.SlotLaws.{held_is}
use Rattle.lookup.specs.Lookup.{get_below}
use Rattle.lookup.proofs.Meaning.{get_shown}
use Rattle.iter.specs.Met.{met}
use Rattle.iter.proofs.Meaning.{met_shown}
use Rattle.reads.specs.Listed.{written, written_over}
use Rattle.reads.specs.Agrees.{is_entry_in, agree}
use Rattle.replies.specs.declared.Refusal.TheVariants as Why
use Rattle.replies.specs.Answers.{refused, done, number_answer, truth_answer, truth_value}
use Rattle.replies.specs.Outcomes.{leaves, on_header}
use Rattle.looks.specs.Calls.{root_word, size_word, value_found, get_in, get_of, list_from, held_listed, list_in, list_of, same_entries, equal_in, equal_of}
use Rattle.arena.specs.Holds.{Holds, Shelves}
use Rattle.looks.specs.Terms.{Gets, Lists, Compares}
use Rattle.replies.proofs.AnswerLaws.{header_Right}
use Rattle.arena.proofs.Equivalent.{held_slot_lem}
use Rattle.lookup.specs.Lookup.{looked}
use Rattle.replies.specs.declared.Refusal.{Refusal}

-- THE CASES OF AN EDITION NUMBER
module _ (z : Shape) (a : List ℕ) (e : ℕ) where
  module _ (h k : ℕ) where
    pub get_held : held_slot z a e ≡ true → get_in z a e h k ≡ value_found (get_below z a (root_word z a e) h k)
    unfolding get_in
    get_held q = rw q

    pub get_not_held : held_slot z a e ≡ false → get_in z a e h k ≡ refused Why.NoSuchEdition
    unfolding get_in
    get_not_held q = rw q

  module _ (place : ℕ) (out : List ℕ) where
    pub list_held : held_slot z a e ≡ true → list_in z a e place out ≡ held_listed z a e place out
    unfolding list_in
    list_held q = rw q

    pub list_not_held : held_slot z a e ≡ false → list_in z a e place out ≡ leaves (refused Why.NoSuchEdition) out
    unfolding list_in
    list_not_held q = rw q

  -- either edition that is not held is refused with the same number
  module _ (f : ℕ) where
    pub equal_held : held_slot z a e ≡ true → held_slot z a f ≡ true → equal_in z a e f ≡ truth_value (same_entries z a e f)
    unfolding equal_in
    equal_held q r = rw (q, r)

    pub equal_first_not_held : held_slot z a e ≡ false → equal_in z a e f ≡ refused Why.NoSuchEdition
    unfolding equal_in
    equal_first_not_held q = rw q

    pub equal_second_not_held : held_slot z a f ≡ false → equal_in z a e f ≡ refused Why.NoSuchEdition
    unfolding equal_in
    equal_second_not_held r = split (held_slot z a e) (λ q. rw (q, r)) (λ q. rw q)

-- THE CASES OF A LISTING, by the place and the room
module _ (size : ℕ) (es : List Entry) (place : ℕ) (out : List ℕ) where
  pub list_beyond : size < place → list_from size es place out ≡ leaves (refused Why.BeyondTheEnd) out
  unfolding list_from
  list_beyond l = rw (lt-ltb size place l)

  pub list_end : place ≡ size → list_from size es place out ≡ leaves (done 0 0) out
  unfolding list_from
  list_end e = rw (le-ltb size place (omega arith), eq-eqb place size e)

  pub list_short : place < size → length out < 3 → list_from size es place out ≡ leaves (refused Why.OutputTooShort) out
  unfolding list_from
  list_short l s = rw (le-ltb size place (omega arith), ne_eqb place size (λ e. omega arith), lt-ltb (length out) 3 s)

  pub list_written : place < size → 3 ≤ length out
      → list_from size es place out
      ≡ leaves (done (length (written es place (length out))) 0) (written_over (written es place (length out)) out)
  unfolding list_from
  list_written l s = rw (le-ltb size place (omega arith), ne_eqb place size (λ e. omega arith), le-ltb (length out) 3 s)

-- THE CASES OF A COMPARISON, by the roots and the sizes
module _ (z : Shape) (a : List ℕ) (e f : ℕ) where
  pub same_root : root_word z a e ≡ root_word z a f → same_entries z a e f ≡ true
  unfolding same_entries
  same_root r = rw (eq-eqb (root_word z a e) (root_word z a f) r)

  module _ (roots : root_word z a e ≡ root_word z a f → ⊥) where
    pub other_size : (size_word z a e ≡ size_word z a f → ⊥) → same_entries z a e f ≡ false
    unfolding same_entries
    other_size s = rw (ne_eqb (root_word z a e) (root_word z a f) roots, ne_eqb (size_word z a e) (size_word z a f) s)

    pub same_size : size_word z a e ≡ size_word z a f → same_entries z a e f ≡ agree z a (root_word z a e) (root_word z a f)
    unfolding same_entries
    same_size s = rw (ne_eqb (root_word z a e) (root_word z a f) roots, eq-eqb (size_word z a e) (size_word z a f) s)

-- AS THE CODE READS THEM: with the root that it found in the slot
pub get_by : (z : Shape) (a : List ℕ) (e h k root : ℕ) (g : Got) → held_slot z a e ≡ true → root ≡ root_word z a e
    → get_below z a root h k ≡ g → get_in z a e h k ≡ value_found g
get_by z a e h k root g held r q =
    get_held z a e h k held ∙ ap value_found (ap (λ (x : ℕ). get_below z a x h k) (sym r) ∙ q)

-- what a lookup found, as the answer of get
pub get_value : (v : Option ℕ) (g : Got) → looked v ≡ g → number_answer (ok_or v Why.Absent) ≡ value_found g
get_value (Some v) g q = ap value_found q
get_value None g q = ap value_found q

-- MAPS. The trie's comparison, by the sizes, and of a map with itself
module _ (seg : ℕ → ℕ → ℕ) (d : ℕ) (m n : Map ℕ) where
  equal_other_size : (size m ≡ size n → ⊥) → equal seg d m n ≡ false
  unfolding equal
  equal_other_size ne = rw (ne_eqb (size m) (size n) ne)

  equal_same_size : size m ≡ size n
      → equal seg d m n ≡ every (λ x. answers (get seg d x.hash x.key n) x.value) (listing m)
  unfolding equal
  equal_same_size e = rw (eq-eqb (size m) (size n) e)

equal_itself : (seg : ℕ → ℕ → ℕ) (d : ℕ) (W : Entry → Type 0) → 0 < d → (m : Map ℕ) → Canonical seg W d m → equal seg d m m ≡ true
equal_itself seg zero W l m c = absurd (omega arith)
equal_itself seg (suc d) W l m c = equal_reflexive seg d W m c

-- EDITIONS, in an arena with a right header: what the words below a root lead to is what the map that it shows has
held_here : (z : Shape) (a : List ℕ) (e : ℕ) (m : Map ℕ) → Holds z a e m → held_slot z a e ≡ true
held_here z a e m E = held_is z a e E.slot E.held

module _ (a : List ℕ) (z : Shape) (H : Header a z) where
  on_right : {A : Type 0} (x : A) (f : Shape → A) → on_header (header_of a) x f ≡ f z
  on_right x f = header_Right (header_of a) x f z ((Header-says a z).1 H)

  canonical : (m : Map ℕ) → Built (segment z.bits) z.depths (forget m) → Canonical (segment z.bits) Word64 z.depths m
  canonical m b = (Built-iff_Canonical (row z.degree z.bits z.depths H.allowed.last) (Arena.header_Right H) m).0 b

  get_here : (e h k : ℕ) (m : Map ℕ) → Holds z a e m
      → get_below z a (root_word z a e) h k ≡ get (segment z.bits) z.depths h k m
  get_here e h k m E = get_shown z a H.allowed h k m _ E.shows

  list_here : (e : ℕ) (m : Map ℕ) → Shelves z a e m → met z a (root_word z a e) ≡ listing m
  list_here e m S =
      met_shown (segment z.bits) Word64 z a H.allowed m _ (canonical m S.built) S.holds.shows

  -- one root shows one map, which is equal to itself; else the sizes are compared, and each entry is looked up
  same_here : (e f : ℕ) (m n : Map ℕ) → Shelves z a e m → Shelves z a f n
      → same_entries z a e f ≡ equal (segment z.bits) z.depths m n
  same_here e f m n S T =
      let seg = segment z.bits in
      let d = z.depths in
      let sm = S.holds.sized in
      let sn = T.holds.sized in
      ⊎_elim
      (λ r.
      let one : n ≡ m = map_one (columns z a) n m (root_word z a e) (rw r T.holds.shows) S.holds.shows in
      same_root z a e f r
      ∙ rw one (sym (equal_itself seg d Word64 (Arena.header_Right H).some_depths m (canonical m S.built))))
      (λ nr.
      ⊎_elim
      (λ q.
      let es = list_here e m S in
      let ps : is_entry_in z a (root_word z a f) ≡ (λ x. answers (get seg d x.hash x.key n) x.value)
      = fun_ext (λ x. ap (λ (g : Got). answers g x.value) (get_here f x.hash x.key n T.holds)) in
      same_size z a e f nr q ∙ (λ i. every (ps i) (es i)) ∙ sym (equal_same_size seg d m n (sym sm ∙ q ∙ sn)))
      (λ nq. other_size z a e f nr nq ∙ sym (equal_other_size seg d m n (λ q. nq (sm ∙ q ∙ sym sn))))
      (eq? (size_word z a e) (size_word z a f)))
      (eq? (root_word z a e) (root_word z a f))

-- THE CONTRACTS follow from the answers
pub gets : (a : List ℕ) (e h k : ℕ) (r : Result ℕ Refusal) → number_answer r ≡ get_of a e h k → Gets a e h k r
gets a e h k r q =
    record {
      result = q;
      shown =
          λ z H m E.
          q ∙ on_right a z H _ (λ y. get_in y a e h k) ∙ get_held z a e h k (held_here z a e m E)
          ∙ ap value_found (get_here a z H e h k m E);
    }

pub lists : (a : List ℕ) (e place : ℕ) (out : List ℕ) (r : Result ℕ Refusal) (out' : List ℕ) → leaves (number_answer r) out' ≡ list_of a e place out
    → Lists a e place out r out'
lists a e place out r out' q =
    record {
      outcome = q;
      shown =
          λ z H m S.
          let n = S.holds.sized in
          let es = list_here a z H e m S in
          q ∙ on_right a z H _ (λ y. list_in y a e place out)
          ∙ list_held z a e place out (held_here z a e m S.holds) ∙ (λ i. list_from (n i) (es i) place out);
    }

pub compares : (a : List ℕ) (e f : ℕ) (r : Result Bool Refusal) → truth_answer r ≡ equal_of a e f → Compares a e f r
compares a e f r q =
    record {
      result = q;
      shown =
          λ z H m n S T.
          q ∙ on_right a z H _ (λ y. equal_in y a e f)
          ∙ equal_held z a e f (held_here z a e m S.holds) (held_here z a f n T.holds)
          ∙ ap truth_value (same_here a z H e f m n S T);
    }

-- in a sound arena every held slot holds a map that can be built
pub sound_Shelves : {a : List ℕ} (S : Sound a) (e : ℕ) → e < S.shape.slots → (columns S.shape a).held e ≡ 1
    → (m : Map ℕ) × Shelves S.shape a e m
sound_Shelves {a} S e l h =
    let w = held_slot_lem S.shape (columns S.shape a) e h (S.slots e l) in
    (w.map, record { holds = w.edition; built = w.built })

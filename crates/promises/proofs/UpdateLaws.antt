-- Whatever came before, an insert or a change that is done has its entry in the new edition, a removal has it no more, and every other
-- entry is that of the old edition. So a first insert that works cannot be followed by others that pretend.
use Prim.Native.Nat.{ℕ, zero, suc, ◌<◌}
use mathlib.Core.Path.{◌≡◌, sym, ap, ◌∙◌}
use mathlib.Core.List.{List}
use native.Mathlib.Omega.{arith}
use Rattle.segments.specs.Segments.{segment}
use Rattle.layout.specs.declared.Shape.{Shape}
use Rattle.layout.proofs.SizeLaws.{row_is_Right}
use Rattle.trie.specs.declared.Entry.{Entry}
use Rattle.trie.specs.Entry.{Word64, Got, absent, got}
use Rattle.trie.specs.Trie as T
use Rattle.trie.specs.Trie.{Map, size, get, listing}
use Rattle.trie.specs.Listing.{lookup, Once}
use Rattle.trie.specs.Canon.{Canonical}
use Rattle.trie.proofs.MapLaws.{map_listing-get, map_listing-Once, get_insert_same, get_insert_other, get_remove_same, get_remove_other}
use Rattle.arena.specs.Sound.{Sound}
use Rattle.arena.proofs.Shelved.{held_Shelves, shelf_canonical}
use Rattle.cells.proofs.KeptLaws.{Kept-Header}
use Rattle.chains.specs.Chains.{an_entry}
use Rattle.replies.specs.Outcomes.{Outcome}
use Rattle.grants.specs.Terms.{Step, Updates}
use Rattle.updates.specs.Terms.{insert_step, Inserts, Changes}
use Rattle.removes.specs.Terms.{Removes}
use Rattle.looks.specs.Calls.{value_found}
use Rattle.promises.specs.History.{History}
use Rattle.promises.specs.Follows.{Follows}
use Rattle.replies.proofs.AnswerLaws.{number_once}
use Rattle.promises.proofs.HistoryLaws.{History-Sound}
use Rattle.promises.proofs.DoneLaws.{Done, insert_Done, change_Done, remove_Done}
use Rattle.replies.specs.Answers.{took}
use Rattle.replies.specs.declared.Updated.{Updated}

-- WHAT A MAP ANSWERS after an insert and after a remove, with any depths
record Turned (seg : ℕ → ℕ → ℕ) (d h k : ℕ) (g : Got) (m m' : Map ℕ) : Type 0 where
  pub same : get seg d h k m' ≡ g
  pub other : (h' k' : ℕ) → ((h ≡ h') × (k ≡ k') → ⊥) → get seg d h' k' m ≡ get seg d h' k' m'

module _ (seg : ℕ → ℕ → ℕ) (b f : ℕ → ℕ) (m m' : Map ℕ) where
  insert_turns : (d : ℕ) → 0 < d → (x : Entry) → Word64 x → Canonical seg Word64 d m
      → T.updated (T.insert seg d b f x m) ≡ T.updated m' → Turned seg d x.hash x.key (got x.value) m m'
  insert_turns zero l x fits c q = absurd (omega arith)
  insert_turns (suc d) l x fits c q =
      let e : T.insert seg (suc d) b f x m ≡ m' = cc in
      record {
        same = rw (sym e) (get_insert_same seg d Word64 b f x m fits c);
        other = λ h k ne. rw (sym e) (sym (get_insert_other seg d Word64 b f x m h k ne fits c));
      }

  remove_turns : (d : ℕ) → 0 < d → (h k : ℕ) → Canonical seg Word64 d m
      → T.remove seg d b f h k m ≡ T.updated m' → Turned seg d h k absent m m'
  remove_turns zero l h k c q = absurd (omega arith)
  remove_turns (suc d) l h k c q =
      record {
        same = get_remove_same seg d Word64 b f h k m m' q c;
        other = λ h' k' ne. sym (get_remove_other seg d Word64 b f h k m m' h' k' ne q c);
      }

-- what a map lists
record Listed (seg : ℕ → ℕ → ℕ) (d : ℕ) (m : Map ℕ) : Type 0 where
  pub once : Once (listing m)
  pub says : (h k : ℕ) → lookup h k (listing m) ≡ get seg d h k m

map_lists : (seg : ℕ → ℕ → ℕ) (d : ℕ) → 0 < d → (m : Map ℕ) → Canonical seg Word64 d m → Listed seg d m
map_lists seg zero l m c = absurd (omega arith)
map_lists seg (suc d) l m c =
    record { once = map_listing-Once seg d Word64 m c; says = map_listing-get seg d Word64 m c }

-- so do get and list after an update
module _ {a b : List ℕ} {e s x y : ℕ} {step : Shape → Step} {o : Outcome} (S : Sound a) (C : Updates a e step o (took s x y) b)
    (D : Done S.shape a b e (step S.shape) s x y) where
  follows : (h k : ℕ) (g : Got)
      → (0 < S.shape.depths → Turned (segment S.shape.bits) S.shape.depths h k g D.map D.new.result)
      → Follows a b e s h k g
  unfolding size
  follows h k g turned =
      let z = S.shape in
      let deep = (row_is_Right z S.header.allowed).some_depths in
      let t = turned deep in
      let after = Kept-Header (C.inside z S.header) S.header in
      let m = D.new.result in
      let shelved = held_Shelves b (C.sound S) z after s m D.new.holds in
      let list = map_lists (segment z.bits) z.depths deep m (shelf_canonical z b after.allowed s m shelved) in
      record {
        same = λ r R. R.shown z after m D.new.holds ∙ ap value_found t.same;
        other =
            λ h' k' ne r r' R R'.
            number_once r r'
            (R.shown z S.header _ D.old ∙ ap value_found (t.other h' k' ne) ∙ sym (R'.shown z after m D.new.holds));
        listed = listing m;
        once = list.once;
        says = λ h' k' r R. R.shown z after m D.new.holds ∙ ap value_found (sym (list.says h' k'));
        shows = list.says h k ∙ t.same;
        lists = λ place out r out' L. L.shown z after m shelved;
      }

module _ {a b : List ℕ} (past : History a) (e h k : ℕ) where
  module _ (v s x y : ℕ) (fits : Word64 (an_entry h k v)) where
    insert_Follows : {o : Outcome} (S : Sound a) → Updates a e (insert_step (an_entry h k v)) o (took s x y) b
        → Done S.shape a b e (insert_step (an_entry h k v) S.shape) s x y → Follows a b e s h k (got v)
    insert_Follows S C U =
        follows S C U h k (got v)
        (λ l. insert_turns _ _ _ U.map U.new.result _ l (an_entry h k v) fits U.good U.new.makes)

    pub every_insert : Inserts a e h k v (took s x y) b → Follows a b e s h k (got v)
    every_insert C = let S = History-Sound past in insert_Follows S C (insert_Done a b S S.shape S.header e h k v s x y C)

    pub every_change : Changes a e h k v (took s x y) b → Follows a b e s h k (got v)
    every_change C = let S = History-Sound past in insert_Follows S C (change_Done a b S S.shape S.header e h k v s x y C)

  pub every_removal : (s x y : ℕ) → Removes a e h k (took s x y) b → Follows a b e s h k absent
  every_removal s x y C =
      let S = History-Sound past in
      let U = remove_Done a b S S.shape S.header e h k s x y C in
      follows S C U h k absent (λ l. remove_turns _ _ _ U.map U.new.result _ l h k U.good U.new.makes)

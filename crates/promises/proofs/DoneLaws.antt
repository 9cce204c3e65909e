-- An update that is done was of an edition that is held; in a sound arena this is a map that the rules can build, and the new edition is
-- what the step makes of it.
use Prim.Native.Nat.{ℕ}
use mathlib.Core.Path.{refl, subst}
use mathlib.Core.List.{List}
use Rattle.trie.specs.Trie.{Map, empty}
use Rattle.trie.specs.Cells.{Taken}
use Rattle.layout.specs.declared.Shape.{Shape}
use Rattle.layout.specs.Header.{Header}
use Rattle.layout.specs.Columns.{columns}
use Rattle.layout.proofs.HeaderLaws.{Header-once}
use Rattle.arena.specs.Sound.{Sound}
use Rattle.arena.specs.Holds.{Holds}
use Rattle.arena.proofs.Equivalent.{held_slot_lem}
use Rattle.arena.proofs.Shelved.{Good, slots_in, held_Shelves, shelf_canonical}
use Rattle.chains.specs.Chains.{an_entry}
use Rattle.replies.proofs.Tables.{Held, by_Held}
use Rattle.grants.specs.Terms.{Step, NewEdition}
use Rattle.updates.specs.Terms.{insert_step, Inserts, Changes}
use Rattle.removes.specs.Terms.{remove_step, Removes}
use Rattle.promises.specs.Told.{UpdateTold}
use Rattle.promises.proofs.ToldLaws.{insert_told, change_told, remove_told}
use Rattle.replies.specs.Answers.{took}
use Rattle.replies.specs.declared.Updated.{Updated}

pub record Done (z : Shape) (a b : List ℕ) (e : ℕ) (step : Step) (s branches entries : ℕ) : Type 0 where
  pub map : Map ℕ
  pub old : Holds z a e map
  pub good : Good z map
  pub new : NewEdition z a b step map s branches entries

module _ (a b : List ℕ) (S : Sound a) (z : Shape) (h : Header a z) (e : ℕ) where
  abbrev pub Fits : Map ℕ → Type 0
  Fits m = (y : Shape) → Header a y → Held y a e → Holds y a e m

  -- the map that edition e holds, where it is held
  pub map_of : (m : Map ℕ) × Fits m
  map_of =
      by_Held z a e
      (λ q w.
      let k = held_slot_lem z (columns z a) e w.1 (slots_in a S z h e w.0) in
      (k.map, λ y j v. rw (Header-once a y z j h) k.edition))
      (λ q n. (empty, λ y j v. absurd (n (subst (λ (x : Shape). Held x a e) (Header-once a y z j h) v))))

  pub update_Done : {Lacks : Map ℕ → Shape → Type 0} {takes : Map ℕ → Shape → Taken} {step : Shape → Step} (s x y : ℕ)
      → ((m : Map ℕ) → Fits m → UpdateTold a e (Lacks m) (takes m) step (took s x y) b) → Done z a b e (step z) s x y
  update_Done s x y told =
      let (m, fits) = map_of in
      let T = told m fits in
      let E = fits z h ((T.number.exactly z h 0).0 refl).0.0 in
      record {
        map = m;
        old = E;
        good = shelf_canonical z a h.allowed e m (held_Shelves a S z h e m E);
        new = T.means.new S z h m E s x y refl;
      }

  pub insert_Done : (j k v s x y : ℕ) → Inserts a e j k v (took s x y) b → Done z a b e (insert_step (an_entry j k v) z) s x y
  insert_Done j k v s x y U = update_Done s x y (λ m fits. insert_told a S e m fits j k v (took s x y) b U)

  pub change_Done : (j k v s x y : ℕ) → Changes a e j k v (took s x y) b → Done z a b e (insert_step (an_entry j k v) z) s x y
  change_Done j k v s x y U = update_Done s x y (λ m fits. change_told a S e m fits j k v (took s x y) b U)

  pub remove_Done : (j k s x y : ℕ) → Removes a e j k (took s x y) b → Done z a b e (remove_step j k z) s x y
  remove_Done j k s x y U = update_Done s x y (λ m fits. remove_told a S e m fits j k (took s x y) b U)

-- Names play no part, for maps: renaming commutes with insert, change and remove, and get, the listing, the cells taken and
-- what is canonical stay as they are. With one name for all cells this is forgetting them.
use mathlib.Core.Path.{◌≡◌, refl, sym, ◌∙◌, ap}
use mathlib.Core.Logic.{◌↔◌}
use mathlib.Core.List.{[], ◌∷◌}
use Prim.Native.Nat.{ℕ}
use lib.ListN.{length}
use Rattle.trie.specs.Built.{unnamed}
use Rattle.trie.specs.Canon.{Canonical}
use Rattle.trie.specs.Cells.{before, branches_on, stand_before, insert_takes, left_takes, remove_takes}
use Rattle.trie.specs.declared.Entry.{Entry}
use Rattle.trie.specs.Entry.{Got, absent, got, if_got}
use Rattle.trie.specs.Names.{rename_items, rename_node, rename, rename_updated, forget}
use Rattle.trie.specs.Trie.{branch, leaf, chain, Node, none, kid, empty, root, Map, get_node, is_empty, remove_node, listing, size, remove, Updated, not_there, updated, tidy, get, insert, change}
use Rattle.trie.proofs.RenameCanon.{root_rename}
use Rattle.trie.proofs.RenameNodes.{insert_rename, remove_rename, before_rename, chain_rename, get_rename, along_rename, listing_rename}

module _ {X Y : Type 0} (g : X → Y) where
  pub rename-listing : (m : Map X) → listing (rename g m) ≡ listing m
  unfolding rename listing
  rename-listing empty = refl
  rename-listing (root m) = listing_rename g m

  pub rename-size : (m : Map X) → size (rename g m) ≡ size m
  unfolding size
  rename-size m = ap length (rename-listing m)

  module _ (seg : ℕ → ℕ → ℕ) (d : ℕ) where
    pub rename-get : (h k : ℕ) (m : Map X) → get seg d h k (rename g m) ≡ get seg d h k m
    unfolding rename get
    rename-get h k empty = refl
    rename-get h k (root m) = get_rename g seg d 0 h k m

    rename_branches : (h : ℕ) (m : Map X) → branches_on seg d h (rename g m) ≡ branches_on seg d h m
    unfolding rename branches_on
    rename_branches h empty = refl
    rename_branches h (root m) = along_rename g seg d 0 h m

    rename_before : (h k : ℕ) (m : Map X) → stand_before seg d h k (rename g m) ≡ stand_before seg d h k m
    unfolding rename stand_before
    rename_before h k empty = refl
    rename_before h k (root m) = ap (before h k) (chain_rename g seg d 0 h m) ∙ before_rename g h k (chain seg d 0 h m)

    module _ (b : ℕ → X) (f : ℕ → X) where
      pub rename-insert : (e : Entry) (m : Map X) → rename g (insert seg d b f e m)
          ≡ insert seg d (λ j. g (b j)) (λ j. g (f j)) e (rename g m)
      unfolding rename insert
      rename-insert e empty = unfold rename_node rename_items in refl
      rename-insert e (root m) = ap root (insert_rename g seg b f d 0 e m)

      pub rename-change : (e : Entry) (m : Map X) → rename_updated g (change seg d b f e m)
          ≡ change seg d (λ j. g (b j)) (λ j. g (f j)) e (rename g m)
      unfolding change rename_updated
      rename-change e m = rw (rename-get e.hash e.key m, ← rename-insert e m) (go (get seg d e.hash e.key m))
        where
          go : (o : Got) → rename_updated g (if_got o (updated (insert seg d b f e m)) not_there)
              ≡ if_got o (updated (rename g (insert seg d b f e m))) not_there
          go absent = unfold if_got in refl
          go (got v) = unfold if_got in refl

      tidy-rename : (m : Node X) → rename g (tidy m) ≡ tidy (rename_node g m)
      unfolding rename tidy is_empty rename_node rename_items
      tidy-rename (leaf []) = refl
      tidy-rename (leaf (x ∷ xs)) = refl
      tidy-rename (branch c none) = refl
      tidy-rename (branch c (kid s m ks)) = refl

      pub rename-remove : (h k : ℕ) (m : Map X) → rename_updated g (remove seg d b f h k m)
          ≡ remove seg d (λ j. g (b j)) (λ j. g (f j)) h k (rename g m)
      unfolding rename remove rename_updated
      rename-remove h k empty = refl
      rename-remove h k (root m) = rw (
        get_rename g seg d 0 h k m,
        ← remove_rename g seg b f d 0 h k m,
        ← tidy-rename
            (remove_node seg b f d 0 h k m),
      ) (go (get_node seg d 0 h k m))
        where
          go : (o : Got) → rename_updated g (if_got o (updated (tidy (remove_node seg b f d 0 h k m))) not_there)
              ≡ if_got o (updated (rename g (tidy (remove_node seg b f d 0 h k m)))) not_there
          go absent = unfold if_got in refl
          go (got v) = unfold if_got in refl

      pub rename-insert_takes : (e : Entry) (m : Map X) → insert_takes seg d (λ j. g (b j)) (λ j. g (f j)) e (rename g m)
          ≡ insert_takes seg d b f e m
      unfolding insert_takes
      rename-insert_takes e m = rw (
        ← rename-insert e m,
        rename_branches e.hash (insert seg d b f e m),
        rename_before e.hash
            e.key m,
      )

      pub rename-remove_takes : (h k : ℕ) (m : Map X) → remove_takes seg d (λ j. g (b j)) (λ j. g (f j)) h k (rename g m)
          ≡ remove_takes seg d b f h k m
      rename-remove_takes h k m = rw (← rename-remove h k m) (go (remove seg d b f h k m))
        where
          go : (u : Updated X) → left_takes seg d h k (rename g m) (rename_updated g u) ≡ left_takes seg d h k m u
          go not_there = unfold left_takes rename_updated in refl
          go (updated m') = unfold left_takes rename_updated in (rw (rename_branches h m', rename_before h k m))

  pub rename-Canonical : (seg : ℕ → ℕ → ℕ) (W : Entry → Type 0) (d : ℕ) (m : Map X) → Canonical seg W d m
      ↔ Canonical seg W d (rename g m)
  unfolding Canonical rename
  rename-Canonical seg W d empty = (λ a. a, λ a. a)
  rename-Canonical seg W d (root m) = root_rename g seg W d m

-- THE CELLS TAKEN do not depend on names: neither on those of the trie nor on the new ones
module _ (seg : ℕ → ℕ → ℕ) (d : ℕ) {X : Type 0} (b f : ℕ → X) (m : Map X) where
  pub insert_takes-forget : (e : Entry) → insert_takes seg d b f e m ≡ insert_takes seg d unnamed unnamed e (forget m)
  insert_takes-forget e = sym (rename-insert_takes (λ c. tt) seg d b f e m)

  pub takes_any_names : (b' f' : ℕ → X) (e : Entry) → insert_takes seg d b f e m ≡ insert_takes seg d b' f' e m
  takes_any_names b' f' e = insert_takes-forget e ∙ rename-insert_takes (λ c. tt) seg d b' f' e m

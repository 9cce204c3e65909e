-- Names play no part in what is canonical.
use mathlib.Core.Path.{sym, ◌∙◌}
use mathlib.Core.Logic.{◌↔◌}
use mathlib.Core.List.{List, [], ◌∷◌}
use Prim.Native.Nat.{ℕ, zero, suc}
use Rattle.trie.specs.Canon.{Above, Asc, AllKids, Some, Big, Busy, AllItems, Distinct, NonEmpty, In, Canon}
use Rattle.trie.specs.declared.Entry.{Entry}
use Rattle.trie.specs.Names.{rename_items, rename_node, rename_kids}
use Rattle.trie.specs.Trie.{branch, Item, leaf, Node, Kids, none, kid}
use Rattle.trie.proofs.RenameNodes.{find_rename}

module _ {X Y : Type 0} (g : X → Y) where
  some_to : (ks : Kids X) → Some ks ↔ Some (rename_kids g ks)
  unfolding Some rename_node
  some_to none = (λ a. a, λ a. a)
  some_to (kid s m ks) = (λ a. a, λ a. a)

  Busy-to : (ks : Kids X) → Busy ks ↔ Busy (rename_kids g ks)
  unfolding Busy Big rename_node rename_items
  Busy-to none = (λ a. a, λ a. a)
  Busy-to (kid s (leaf []) none) = (λ a. a, λ a. a)
  Busy-to (kid s (leaf (x ∷ [])) none) = (λ a. a, λ a. a)
  Busy-to (kid s (leaf (x ∷ (y ∷ ys))) none) = (λ a. a, λ a. a)
  Busy-to (kid s (branch c ks) none) = (λ a. a, λ a. a)
  Busy-to (kid s m (kid i l ks)) = (λ a. a, λ a. a)

  Above-to : (lo : ℕ) (ks : Kids X) → Above lo ks ↔ Above lo (rename_kids g ks)
  unfolding Above rename_node
  Above-to lo none = (λ a. a, λ a. a)
  Above-to lo (kid s m ks) = (λ a. (a.0, (Above-to s ks).0 a.1), λ a. (a.0, (Above-to s ks).1 a.1))

  Asc-to : (ks : Kids X) → Asc ks ↔ Asc (rename_kids g ks)
  unfolding Asc rename_node
  Asc-to none = (λ a. a, λ a. a)
  Asc-to (kid s m ks) = Above-to s ks

  all_to : (P : ℕ → Node X → Type 0) (R : ℕ → Node Y → Type 0) → ((s : ℕ) (m : Node X) → P s m ↔ R s (rename_node g m))
      → (ks : Kids X) → AllKids P ks ↔ AllKids R (rename_kids g ks)
  unfolding AllKids rename_node
  all_to P R i none = (λ a. a, λ a. a)
  all_to P R i (kid s m ks) = (
    λ a. ((i s m).0 a.0, (all_to P R i ks).0 a.1),
    λ a.
        ((i s m).1 a.0, (all_to P R i ks).1 a.1),
  )

  some_items : (xs : List (Item X)) → NonEmpty xs ↔ NonEmpty (rename_items g xs)
  unfolding NonEmpty rename_items
  some_items [] = (λ a. a, λ a. a)
  some_items (x ∷ xs) = (λ a. a, λ a. a)

  all_items : (P : Entry → Type 0) (xs : List (Item X)) → AllItems P xs ↔ AllItems P (rename_items g xs)
  unfolding AllItems rename_items
  all_items P [] = (λ a. a, λ a. a)
  all_items P (x ∷ xs) = (λ a. (a.0, (all_items P xs).0 a.1), λ a. (a.0, (all_items P xs).1 a.1))

  Distinct-to : (xs : List (Item X)) → Distinct xs ↔ Distinct (rename_items g xs)
  unfolding Distinct rename_items
  Distinct-to [] = (λ a. a, λ a. a)
  Distinct-to (x ∷ xs) = (
    λ a. (find_rename g x.entry.hash x.entry.key xs ∙ a.0, (Distinct-to xs).0 a.1),
    λ a. (sym (find_rename g x.entry.hash x.entry.key xs) ∙ a.0, (Distinct-to xs).1 a.1),
  )

  module _ (seg : ℕ → ℕ → ℕ) (W : Entry → Type 0) where
    pub Canon-rename : (n : ℕ) (path : List ℕ) (Q : Kids X → Type 0) (R : Kids Y → Type 0)
        → ((ks : Kids X) → Q ks ↔ R (rename_kids g ks)) → (m : Node X)
        → Canon seg W Q n path m ↔ Canon seg W R n path (rename_node g m)
    unfolding Canon rename_node rename_items
    Canon-rename zero path Q R qr (leaf xs) = (
      λ a. ((some_items xs).0 a.0, (all_items (In seg W path) xs).0 a.1, (Distinct-to xs).0 a.2),
      λ a. ((some_items xs).1 a.0, (all_items (In seg W path) xs).1 a.1, (Distinct-to xs).1 a.2),
    )
    Canon-rename zero path Q R qr (branch c ks) = (λ a. a, λ a. a)
    Canon-rename (suc n) path Q R qr (leaf []) = (λ a. a, λ a. a)
    Canon-rename (suc n) path Q R qr (leaf (x ∷ [])) = (λ a. a, λ a. a)
    Canon-rename (suc n) path Q R qr (leaf (x ∷ (y ∷ ys))) = (λ a. a, λ a. a)
    Canon-rename (suc n) path Q R qr (branch c ks) =
        let i : AllKids (λ s m. Canon seg W Busy n (s ∷ path) m) ks
        ↔ AllKids (λ s m. Canon seg W Busy n (s ∷ path) m) (rename_kids g ks)
        = all_to (λ s m. Canon seg W Busy n (s ∷ path) m) (λ s m. Canon seg W Busy n (s ∷ path) m)
        (λ s m. Canon-rename n (s ∷ path) Busy Busy Busy-to m) ks in
        (λ a. ((qr ks).0 a.0, (Asc-to ks).0 a.1, i.0 a.2), λ a. ((qr ks).1 a.0, (Asc-to ks).1 a.1, i.1 a.2))

    pub root_rename : (n : ℕ) (m : Node X) → Canon seg W Some n [] m ↔ Canon seg W Some n [] (rename_node g m)
    root_rename n m = Canon-rename n [] Some Some some_to m

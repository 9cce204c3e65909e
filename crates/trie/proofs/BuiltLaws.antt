-- The tries that the rules can build are the canonical ones. One way each rule keeps a trie canonical; the other way a root
-- branch is built by inserting its listing from the back, and a root entry by inserting it with company and removing the
-- company again. Canonical tries with one listing are equal.
use mathlib.Core.Path.{◌≡◌, refl, sym, ◌∙◌, ap, subst}
use mathlib.Core.Bool.{true, false}
use mathlib.Core.Logic.{◌⊎◌, inl, inr, ⊎_elim}
use mathlib.Core.List.{List, [], ◌∷◌, ◌++◌}
use Prim.Native.Nat.{ℕ, suc, ◌^◌, ◌<◌}
use native.Mathlib.Omega.{arith}
use borrow.Author.Tests.{eq-eqb, ne_eqb}
use Rattle.cases.proofs.Cases.{eq?}
use Rattle.trie.specs.Built.{unnamed, Built, nothing, inserted, removed}
use Rattle.trie.specs.Canon.{Some, Busy, Under, In, Canon, Canonical}
use Rattle.trie.specs.declared.Entry.{Entry}
use Rattle.trie.specs.Entry.{Word64, matches, got}
use Rattle.trie.specs.Listing.{All, Pairwise, Once, cut, place, Ordered}
use Rattle.trie.specs.Trie.{branch, Item, leaf, single, Node, Kids, none, kid, empty, root, Map, insert_node, is_empty, remove_node, listing_chain, listing_node, listing, tidy, get, insert}
use Rattle.trie.proofs.ListLaws.{All-weak}
use Rattle.trie.proofs.ListingLaws.{listing_under}
use Rattle.trie.proofs.MapLaws.{removal, Removal, taken_out, remove_there, canonical_insert, canonical_remove, map_lists_insert, map_lists_remove, map_listing-Once, map_listing-Ordered, get_insert_same}
use Rattle.trie.proofs.OrderLaws.{place_none, place_left, place-cut}
use Rattle.trie.proofs.RemoveCanon.{Canon-full, root_remove}
use Rattle.trie.proofs.Unique.{begins, Begins, Canon-lists, node_unique, branch_unique}

-- every entry has another with its hash
other : (e : Entry) → Word64 e → (y : Entry) × Word64 y × (matches y.hash y.key e ≡ false)
other e w = ⊎_elim (λ q. with_key 1 (omega arith) (λ z. omega arith)) (λ q. with_key 0 (omega arith) q) (eq? e.key 0)
  where
    with_key : (k : ℕ) → k < 2 ^ 64 → (e.key ≡ k → ⊥) → (y : Entry) × Word64 y × (matches y.hash y.key e ≡ false)
    with_key k l ne = (
      record { hash = e.hash; key = k; value = 0 },
      record { hash_fits = w.hash_fits; key_fits = l; value_fits = omega arith },
      unfold matches in (rw (eq-eqb e.hash e.hash refl, ne_eqb e.key k ne)),
    )

module _ (seg : ℕ → ℕ → ℕ) (d : ℕ) where
  abbrev ins : Entry → Map (Unit {0}) → Map (Unit {0})
  ins e m = insert seg (suc d) unnamed unnamed e m

  abbrev Good : Map (Unit {0}) → Type 0
  Good m = Canonical seg Word64 (suc d) m

  -- WHAT IS BUILT IS CANONICAL
  pub Built-canonical : {m : Map (Unit {0})} → Built seg (suc d) m → Good m
  Built-canonical nothing = unfold Canonical in tt
  Built-canonical (inserted {m = m} e w t) = canonical_insert seg d Word64 unnamed unnamed e m w (Built-canonical t)
  Built-canonical (removed {m = m} {m' = m'} h k t q)
      = canonical_remove seg d Word64 unnamed unnamed h k m m' q (Built-canonical t)

  -- A ROOT BRANCH, from its listing
  no_entry : {l : List Entry} → Begins l → [] ≡ l → ⊥
  no_entry (begins e es) q = let z : ◌≡◌ {A = ℕ} 0 1 = cc in omega arith

  rebuilt : List Entry → Map (Unit {0})
  rebuilt [] = empty
  rebuilt (e ∷ es) = ins e (rebuilt es)

  rebuilt-Built : (es : List Entry) → All Word64 es → Built seg (suc d) (rebuilt es)
  unfolding rebuilt All
  rebuilt-Built [] w = nothing
  rebuilt-Built (e ∷ es) (p, w) = inserted e p (rebuilt-Built es w)

  rebuilt_lists : (es : List Entry) → All Word64 es → Once es → Ordered seg (suc d) 0 es → listing (rebuilt es) ≡ es
  unfolding rebuilt Pairwise
  rebuilt_lists [] w o r = unfold listing in refl
  rebuilt_lists (e ∷ es) w (u, o) (l, r) =
      let ws : Word64 e × All Word64 es = unfold All in w in
      map_lists_insert seg d Word64 unnamed unnamed e (rebuilt es) (Built-canonical (rebuilt-Built es ws.1))
      ∙ ap (place seg (suc d) 0 e) (rebuilt_lists es ws.1 o r) ∙ place_left seg (suc d) 0 e [] es l u
      ∙ ap (λ (z : List Entry). z ++ es) (place_none seg (suc d) 0 e)

  data Branched : Map (Unit {0}) → Type 0 where
    branched : (ks : Kids (Unit {0})) → Branched (root (branch tt ks))

  insert_Branched : (e : Entry) (m : Map (Unit {0})) → (m ≡ empty) ⊎ Branched m → Branched (ins e m)
  unfolding insert insert_node
  insert_Branched e m (inl q) = rw q (branched (kid (seg 0 e.hash) (single unnamed e) none))
  insert_Branched e m (inr (branched ks)) = branched _

  rebuilt-Branched : (es : List Entry) → (rebuilt es ≡ empty) ⊎ Branched (rebuilt es)
  unfolding rebuilt
  rebuilt-Branched [] = inl refl
  rebuilt-Branched (e ∷ es) = inr (insert_Branched e (rebuilt es) (rebuilt-Branched es))

  branch-Built : (ks : Kids (Unit {0})) → Good (root (branch tt ks)) → Built seg (suc d) (root (branch tt ks))
  branch-Built ks c = go (rebuilt es) (rebuilt-Branched es) (rebuilt-Built es words)
      (rebuilt_lists es words (map_listing-Once seg d Word64 m c) (map_listing-Ordered seg d Word64 m c))
    where
      m : Map (Unit {0})
      m = root (branch tt ks)

      es : List Entry
      es = listing m

      node : Canon seg Word64 Some (suc d) [] (branch tt ks)
      node = unfold Canonical in c

      words : All Word64 es
      words = unfold listing in (All-weak (In seg Word64 []) Word64 (λ e i. i.1) (listing_node (branch tt ks))
          (listing_under seg Word64 (suc d) [] Some (branch tt ks) node))

      go : (r : Map (Unit {0})) → (r ≡ empty) ⊎ Branched r → Built seg (suc d) r → listing r ≡ es → Built seg (suc d) m
      go r (inl q) b l = absurd (no_entry (Canon-lists seg Word64 (suc d) [] Some (λ is s. s) (branch tt ks) node)
          (unfold listing in (sym (ap listing q) ∙ l)))
      go r (inr (branched is)) b l =
          subst (Built seg (suc d)) (ap root (branch_unique seg Word64 d [] Some Some tt tt is ks
          (unfold Canonical in (Built-canonical b)) node (unfold listing in l))) b

  -- A ROOT ENTRY, by company that comes and goes
  module _ (x : Item (Unit {0})) (w : Word64 x.entry) (y : Entry) (wy : Word64 y)
      (ne : matches y.hash y.key x.entry ≡ false) where
    pair : Map (Unit {0})
    pair = ins y (ins x.entry empty)

    pair-Built : Built seg (suc d) pair
    unfolding pair
    pair-Built = inserted y wy (inserted x.entry w nothing)

    pair_lists : listing pair ≡ place seg (suc d) 0 y (x.entry ∷ [])
    unfolding pair
    pair_lists =
        map_lists_insert seg d Word64 unnamed unnamed y (ins x.entry empty) (Built-canonical (inserted x.entry w nothing))
        ∙ ap (place seg (suc d) 0 y) (map_lists_insert seg d Word64 unnamed unnamed x.entry empty (Built-canonical nothing)
        ∙ unfold listing in (place_none seg (suc d) 0 x.entry))

    pair_has : get seg (suc d) y.hash y.key pair ≡ got y.value
    unfolding pair
    pair_has = get_insert_same seg d Word64 unnamed unnamed y (ins x.entry empty) wy
        (Built-canonical (inserted x.entry w nothing))

    alone : {m m' : Map (Unit {0})} → Removal seg d Word64 unnamed unnamed y.hash y.key m m' → Good m → listing m'
        ≡ x.entry ∷ [] → m' ≡ root (leaf (x ∷ []))
    unfolding Canonical tidy listing
    alone (taken_out n v g) c l = go (remove_node seg unnamed unnamed (suc d) 0 y.hash y.key n)
        (root_remove seg Word64 unnamed unnamed y.hash y.key (suc d) [] n v c g) l
      where
        go : (m : Node (Unit {0})) → (is_empty m ≡ true) ⊎ Canon seg Word64 Busy (suc d) [] m → listing (tidy m) ≡ x.entry ∷ []
            → tidy m ≡ root (leaf (x ∷ []))
        go m (inl q) l = absurd (no_entry (begins x.entry []) (rw q at l))
        go m (inr c) l =
            let q : is_empty m ≡ false = Canon-full seg Word64 (suc d) [] m c in
            let cx : Canon seg Word64 Busy (suc d) [] (leaf (x ∷ [])) = unfold Canon Under in (tt, w) in
            let lx : x.entry ∷ [] ≡ listing_node (leaf (x ∷ [])) = unfold listing_node listing_chain in refl in
            rw q (ap root (node_unique seg Word64 (suc d) [] m (leaf (x ∷ [])) c cx (rw q at l ∙ lx)))

    left_alone : Built seg (suc d) (root (leaf (x ∷ [])))
    left_alone =
        let c : Good pair = Built-canonical pair-Built in
        let (m', q) = remove_there seg d Word64 unnamed unnamed y.hash y.key pair y.value pair_has in
        let lists : listing m' ≡ x.entry ∷ []
        = map_lists_remove seg d Word64 unnamed unnamed y.hash y.key pair m' q c ∙ ap (cut y.hash y.key) pair_lists
        ∙ place-cut seg (suc d) 0 y (x.entry ∷ []) (unfold All in (ne, tt)) in
        subst (Built seg (suc d)) (alone (removal seg d Word64 unnamed unnamed y.hash y.key pair m' q) c lists)
        (removed y.hash y.key pair-Built q)

  -- WHAT IS CANONICAL CAN BE BUILT
  pub canonical_Built : (m : Map (Unit {0})) → Good m → Built seg (suc d) m
  canonical_Built empty c = nothing
  canonical_Built (root (leaf [])) c = absurd (unfold Canonical Canon in c)
  canonical_Built (root (leaf (x ∷ []))) c = let w : Word64 x.entry = unfold Canonical Canon in c.1 in let (y, wy, ne)
      = other x.entry w in left_alone x w y wy ne
  canonical_Built (root (leaf (x ∷ (y ∷ xs)))) c = absurd (unfold Canonical Canon in c)
  canonical_Built (root (branch u ks)) c = branch-Built ks c

-- What the writing of a removal comes to on an arena in the local form, where its reading pass says what the trie's remove takes and
-- makes and as many cells are free: what is left in the free slot, what lived still there, and no other slot written.
use Rattle.std.proofs.Common.{◌≡◌, ℕ, ◌+◌, ◌<◌, ◌≤◌, false, List, [], ◌∷◌, ◌++◌, length, sym, refl, ap, ◌∙◌, subst, arith, ne_eqb}
use Rattle.counts.specs.Counts.{ind}
use Rattle.counts.proofs.CountLaws.{ind_other}
use Rattle.segments.specs.Segments.{segment}
use Rattle.layout.specs.declared.Shape.{Shape}
use Rattle.layout.specs.Layout.{Lent}
use Rattle.layout.specs.Columns.{State, columns}
use Rattle.layout.proofs.SizeLaws.{row_is_Right}
use Rattle.trie.specs.Entry.{Word64, got}
use Rattle.trie.specs.Trie.{Item, Node, Map, empty, root, get, list_remove_first}
use Rattle.trie.proofs.CellLaws.{empty_takes_no_branch, empty_takes_no_entry}
use Rattle.trie.proofs.CopyLaws.{copies}
use Rattle.trie.proofs.PathLaws.{chain_of}
use Rattle.arena.specs.Shows.{ShowsChain, ShowsMap}
use Rattle.arena.specs.Local.{Local, Grow, SameSlots}
use Rattle.arena.proofs.LocalLaws.{rehand, refree}
use Rattle.arena.proofs.Frames.{Grow-refl, slots_refl, map_kept}
use Rattle.arena.proofs.Shelved.{Good}
use Rattle.cells.specs.Frame.{Kept}
use Rattle.cells.specs.Mirrors.{Wrote, wrote}
use Rattle.cells.proofs.KeptLaws.{kept_refl, Kept-Lent}
use Rattle.cells.proofs.Made.{left, taking, Made, none_taken}
use Rattle.chains.specs.Chains.{taken_from}
use Rattle.chains.proofs.Meaning.{take_none, take_means}
use Rattle.prunes.proofs.MapLaws.{map_prune_means}
use Rattle.grants.proofs.FreshLaws.{names_of_branches, names_of_entries}
use Rattle.grants.proofs.RootLaws.{Rooted, path_Rooted}
use Rattle.removes.specs.declared.Cut.{Cut}
use Rattle.removes.specs.Calls.{lacks}
use Rattle.removes.proofs.CaseLaws.{chain_wrote, root_wrote}
use Rattle.removes.proofs.PlanLaws.{Cuts}

-- nothing in hand is as the reference 0 in hand
none_in_hand : {z : Shape} {σ : State} {free : ℕ → List ℕ} → Local z σ (λ r. 0) free → Local z σ (λ r. ind r 0) free
none_in_hand I = rehand (λ r. ind r 0) (λ r nz. sym (ind_other r 0 (λ y. nz (sym y)))) I

-- WHAT IS LEFT OF THE CHAIN: xs, shown from the reference in hand on, and no cell was wanting
pub record Chained (z : Shape) (a : List ℕ) (free : ℕ → List ℕ) (n : ℕ) (xs : List (Item ℕ)) (w : Wrote) : Type 0 where
  pub enough : lacks w.at n ≡ false
  pub kept : Kept z a w.words
  pub local : Local z (columns z w.words) (λ r. ind r w.at) (left (taking 1 n) free)
  pub grow : Grow (columns z a) (columns z w.words)
  pub slots : SameSlots (columns z a) (columns z w.words)
  pub shows : ShowsChain (columns z w.words) xs w.at

Made-Chained : {z : Shape} {a : List ℕ} {free : ℕ → List ℕ} (n : ℕ) (xs : List (Item ℕ)) (w : Wrote)
    → Made z a free (taking 1 n) w × ShowsChain (columns z w.words) xs w.at → Chained z a free n xs w
unfolding lacks
Made-Chained n xs w (M, shown) =
    record {
      enough = rw (ne_eqb w.at 0 M.some);
      kept = M.kept;
      local = M.local;
      grow = M.grow;
      slots = M.slots;
      shows = shown;
    }

module _ {z : Shape} {a : List ℕ} {free : ℕ → List ℕ} (l : Lent z a) (I : Local z (columns z a) (λ r. 0) free) where
  -- nothing is left of it, and nothing is written
  none_Chained : Chained z a free 0 [] (wrote 0 a)
  unfolding lacks ShowsChain
  none_Chained =
      record {
        enough = refl;
        kept = kept_refl z a;
        local = refree (none_taken free 1) (none_in_hand I);
        grow = Grow-refl (columns z a);
        slots = slots_refl (columns z a);
        shows = refl;
      }

  -- copies of es, which stood before the entry x, and ys, which stood behind it
  module _ (n r q : ℕ) (x : Item ℕ) where
    abbrev Takes : List (Item ℕ) → List (Item ℕ) → Type 0
    Takes es ys =
        ShowsChain (columns z a) (es ++ (x ∷ ys)) r → length es ≡ n → ShowsChain (columns z a) ys q → n ≤ length (free 1)
        → Chained z a free n (copies (names_of_entries free) 0 es ++ ys) (taken_from z n r q a)

    some_chained : (es ys : List (Item ℕ)) → 0 < length es + length ys → Takes es ys
    some_chained es ys some h len shown fits =
        Made-Chained n _ _ (take_means l I n r q es (x ∷ ys) ys (names_of_entries free) h len refl shown fits (λ u lu. refl) some)

    take_chained : (es ys : List (Item ℕ)) → Takes es ys
    unfolding copies ShowsChain
    take_chained [] [] h len shown fits = rw (sym len, shown, take_none z a r) none_Chained
    take_chained [] (y ∷ ys) h len shown fits = some_chained [] (y ∷ ys) (omega arith) h len shown fits
    take_chained (y ∷ es) ys h len shown fits = some_chained (y ∷ es) ys (omega arith) h len shown fits

-- WHAT IT COMES TO
module _ {z : Shape} {a : List ℕ} {free : ℕ → List ℕ} (l : Lent z a) (I : Local z (columns z a) (λ r. 0) free) (h k v : ℕ)
    (p : Cut) (m : Map ℕ) (good : Good z m) (g : get (segment z.bits) z.depths h k m ≡ got v) (r : ℕ)
    (shown : ShowsMap (columns z a) m r) (room_0 : p.branches ≤ length (free 0)) (room_1 : p.tail.count ≤ length (free 1)) where
  abbrev bn : ℕ → ℕ
  bn = names_of_branches free p.branches

  abbrev fn : ℕ → ℕ
  fn = names_of_entries free

  abbrev seg : ℕ → ℕ → ℕ
  seg = segment z.bits

  -- nothing is left
  pub none_Rooted : Cuts z a bn fn h k m empty r p → Rooted z a free p.branches p.tail.count empty (wrote 0 a)
  unfolding ShowsMap
  none_Rooted P =
      let some = (row_is_Right z l.allowed).some_depths in
      let no_branches : p.branches ≡ 0 = P.branches_is ∙ empty_takes_no_branch seg Word64 bn fn h k z.depths m P.makes in
      let no_entries : p.tail.count ≡ 0 = P.before_is ∙ empty_takes_no_entry seg Word64 bn fn h k z.depths m some good P.makes in
      rw (no_branches, no_entries)
      (record {
        kept = kept_refl z a;
        local =
            refree (λ q. none_taken free 1 q ∙ none_taken (left (taking 1 0) free) 0 q) (none_in_hand I);
        grow = Grow-refl (columns z a);
        slots = slots_refl (columns z a);
        shows = refl;
      })

  -- a root is left
  module _ (n : Node ℕ) (P : Cuts z a bn fn h k m (root n) r p) where
    pub chain_made : Chained z a free p.tail.count (list_remove_first fn 0 h k (chain_of seg z.depths h m)) (chain_wrote z a h p)
    unfolding chain_wrote
    chain_made =
        rw P.leaf_is
        (take_chained l I p.tail.count p.tail.from p.tail.rest P.at P.copied P.shared P.front_shown P.copied_length
        P.shared_shown room_1)

    pub root-Made : Made z (chain_wrote z a h p).words (left (taking 1 p.tail.count) free) (taking 0 p.branches) (root_wrote z a h p)
        × ShowsMap (columns z (root_wrote z a h p).words) (root n) (root_wrote z a h p).at
    unfolding root_wrote
    root-Made =
        let C = chain_made in
        map_prune_means (Kept-Lent C.kept l) bn fn h k v (chain_wrote z a h p).at m n good g P.makes C.local
        p.root p.branches
        (map_kept C.grow m p.root (subst (λ (q : ℕ). ShowsMap (columns z a) m q) (sym P.root_is) shown))
        C.shows P.branches_is room_0 (λ u lu. ap bn (omega arith))

    pub some_Rooted : Rooted z a free p.branches p.tail.count (root n) (root_wrote z a h p)
    some_Rooted = let C = chain_made in path_Rooted C.kept C.grow C.slots root-Made.0 root-Made.1

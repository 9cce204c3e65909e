-- One step up of a removal's path, by whether a single is all that is left of the branch: what stands in its place shows what the
-- trie's compress makes.
use Rattle.std.proofs.Common.{◌≡◌, ℕ, suc, ◌<◌, ◌≤◌, List, length}
use Rattle.cases.proofs.Cases.{split}
use Rattle.segments.specs.Segments.{segment}
use Rattle.layout.specs.declared.Shape.{Shape}
use Rattle.layout.specs.Layout.{Lent}
use Rattle.layout.specs.Columns.{columns}
use Rattle.trie.specs.Trie.{Node, Kids, found, child, put, take_out}
use Rattle.arena.specs.Local.{Local}
use Rattle.cells.specs.Mirrors.{Wrote}
use Rattle.grafts.proofs.SeenLaws.{Seen}
use Rattle.grafts.proofs.Meaning.{Names, Grafted}
use Rattle.prunes.specs.Prunes.{below_settled, child_cut}
use Rattle.prunes.proofs.SingleLaws.{lone_kids}
use Rattle.prunes.proofs.StepMeaning.{left_on, settled, cut, settle_lone, settle_put, cut_lone, cut_more}

-- the child put back
pub settle_means : {z : Shape} {a : List ℕ} {free : ℕ → List ℕ} {ks : Kids ℕ} (b : ℕ → ℕ) (m old : Node ℕ) (h n t r : ℕ) (s : Wrote)
    → Lent z a → Grafted z a free (left_on z n (suc t) h m) m (suc t) s
    → Seen z (columns z s.words) t r ks → child (segment z.bits t h) ks ≡ found old → t < z.depths
    → left_on z (suc n) t h (settled z b h t m ks) ≤ length (free 0)
    → Names b t free (left_on z (suc n) t h (settled z b h t m ks))
    → Grafted z a free (left_on z (suc n) t h (settled z b h t m ks)) (settled z b h t m ks) t (below_settled z h t r s)
settle_means {z} {ks = ks} b m old h n t r s l G S q deep room names =
    split (lone_kids (put (segment z.bits t h) m ks))
    (λ e. settle_lone b m old h n t r s l G S q e)
    (λ f. settle_put b m old h n t r s l G S q f deep room names)

-- the child taken out
pub cut_means : {z : Shape} {a : List ℕ} {free : ℕ → List ℕ} {ks : Kids ℕ} (b : ℕ → ℕ) (old : Node ℕ) (h n t r : ℕ)
    → Lent z a → Local z (columns z a) (λ q. 0) free
    → Seen z (columns z a) t r ks → child (segment z.bits t h) ks ≡ found old → t < z.depths
    → left_on z (suc n) t h (cut z b h t ks) ≤ length (free 0)
    → Names b t free (left_on z (suc n) t h (cut z b h t ks))
    → Grafted z a free (left_on z (suc n) t h (cut z b h t ks)) (cut z b h t ks) t (child_cut z h t r a)
cut_means {z} {ks = ks} b old h n t r l I S q deep room names =
    split (lone_kids (take_out (segment z.bits t h) ks))
    (λ e. cut_lone b old h n t r l I S q e)
    (λ f. cut_more b old h n t r l I S q f deep room names)

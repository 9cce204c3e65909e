-- What remove does with a slot stays inside the arena, on any words with a right header: words 0 to 7, the words beyond the total and
-- the length are kept, whatever is answered.
use Rattle.std.proofs.Common.{ℕ, ◌<◌, List}
use Rattle.layout.specs.declared.Shape.{Shape}
use Rattle.layout.specs.Layout.{Lent}
use Rattle.cells.specs.Frame.{Kept}
use Rattle.cells.specs.Mirrors.{wrote}
use Rattle.cells.proofs.KeptLaws.{kept_refl, kept_trans}
use Rattle.chains.proofs.KeptLaws.{take_Kept}
use Rattle.prunes.proofs.KeptLaws.{prune_Kept}
use Rattle.replies.specs.Outcomes.{Outcome}
use Rattle.grants.proofs.InsideLaws.{held_kept, hold_Kept}
use Rattle.removes.specs.declared.Cut.{Cut}
use Rattle.removes.specs.Calls.{cut_to}
use Rattle.removes.proofs.CaseLaws.{chain_wrote, root_wrote, by_writing}

module _ {z : Shape} {a : List ℕ} (l : Lent z a) (h : ℕ) (p : Cut) where
  chain_Kept : Kept z a (chain_wrote z a h p).words
  unfolding chain_wrote
  chain_Kept = take_Kept p.tail.count p.tail.from p.tail.rest l

  root_kept : Kept z a (root_wrote z a h p).words
  unfolding root_wrote
  root_kept = kept_trans chain_Kept (prune_Kept z h _ z.depths 0 p.root _)

  pub cut_Kept : (s : ℕ) → s < z.slots → Kept z a (cut_to z a h p s).words
  cut_Kept s ls =
      by_writing z a h p s (λ (o : Outcome). Kept z a o.words)
      (held_kept l.allowed s p.size p.branches p.tail.count ls (wrote 0 a) (kept_refl z a))
      chain_Kept
      (hold_Kept l.allowed s p.size p.branches p.tail.count ls (root_wrote z a h p) root_kept)

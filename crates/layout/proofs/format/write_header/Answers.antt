-- `layout::format::write_header` meets its contract: twelve stores in order are the run of the header's words. Assumes nothing.
use Rattle.layout.proofs.format.write_header.Goals as goal

pub returns : goal.returns
returns c = rw (c.at_branches.ensures, c.at_entries.ensures)

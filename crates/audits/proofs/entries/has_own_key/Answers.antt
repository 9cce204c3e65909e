-- `audits::entries::has_own_key` meets its contract: the search is for the entry's own hash and key. Assumes nothing.
use Rattle.std.proofs.Common.{not, sym, ap, ◌∙◌, arith}
use Rattle.std.proofs.Math.Bool.{not-not}
use Rattle.lookup.proofs.FindLaws.{has_part, entry_word}
use Rattle.audits.proofs.StepLaws.{key_free, key_used}
use Rattle.audits.proofs.entries.has_own_key.Goals as goal

pub word-requires : goal.word-requires
word-requires c = record { lent = c.requires.lent; has_word = has_part _ _ _ c.requires.is_entry (omega arith) }

pub returns-then-word-eq0 : goal.returns-then-word-eq0
returns-then-word-eq0 c = sym (key_free _ _ _ _ c.word.ensures c.if-word-eq0.true)

pub word-hash-requires : goal.word-hash-requires
word-hash-requires c = record { lent = c.requires.lent; has_word = has_part _ _ _ c.requires.is_entry (omega arith) }

pub word-key-requires : goal.word-key-requires
word-key-requires c = record { lent = c.requires.lent; has_word = has_part _ _ _ c.requires.is_entry (omega arith) }

pub returns : goal.returns
returns c =
    let hash = c.word-hash.ensures ∙ sym (entry_word _ _ _ 0 c.requires.is_entry (omega arith)) in
    let key = c.word-key.ensures ∙ sym (entry_word _ _ _ 1 c.requires.is_entry (omega arith)) in
    let own = key_used _ _ _ _ c.word.ensures _ _ _ _ c.if-word-eq0.false c.kid-behind.ensures hash key (sym c.find.ensures) in
    sym (not-not _) ∙ ap not (sym c.is_none.ensures) ∙ sym own

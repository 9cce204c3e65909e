use Rattle.std.proofs.Common.{◌≡◌, suc, sym, refl, ◌∙◌, arith}
use Rattle.layout.specs.Columns.{columns}
use Rattle.layout.proofs.SizeLaws.{has_segment}
use Rattle.lookup.proofs.FindLaws.{has_part}
use Rattle.levels.specs.Levels.{Under, see_at}
use Rattle.levels.proofs.StepLaws.{child_Fault, child_seen, seen_named, row_shift, bits_below, bits_fit, Met, same_fit, child_Met, Row-over, row_ends, Row-Fault, Row-unfit, row_next}
use Rattle.levels.proofs.read_row.Goals.{In_ok-seen, After-segment_at-segment}
use Rattle.levels.proofs.read_row.Goals as goal

-- the child at hand, as it was read
read : (c : In_ok-seen) → see_at c.args.z (columns c.args.z c.args.a.now) (suc c.args.depth) ((columns c.args.z c.args.a.now).kid c.args.r c.loop-k.k) ≡ Under c.in_ok-seen.seen.lead c.in_ok-seen.seen.size
read c = child_seen _ _ _ _ _ _ (omega arith) c.see.ensures _ _ _ c.kid-child.ensures c.in_ok-seen.was

-- and what is known of it once it fits behind those before it
met : (c : After-segment_at-segment) → Met c.args.z c.args.a.now c.args.depth c.args.r c.args.lead c.loop-k.k c.loop-k.low c.loop-k.size c.in_ok-seen.seen.lead c.in_ok-seen.seen.size c.segment_at-segment.result
met c =
    child_Met _ _ c.requires.lent.allowed _ _ _ _ _ _ _ _ _ _ _
    (child_seen _ _ _ _ _ _ (omega arith) c.see.ensures _ _ _ c.kid-child.ensures c.in_ok-seen.was)
    c.requires.lead_is_entry c.word-first.ensures c.word-hash.ensures
    (sym c.is_fit.ensures ∙ c.if-not-is_fit.false) c.segment_at-segment.ensures

pub word-first-requires : goal.word-first-requires
word-first-requires c = record { lent = c.requires.lent; has_word = has_part _ _ 3 c.requires.lead_is_entry (omega arith) }

pub returns-then-child-eq0 : goal.returns-then-child-eq0
returns-then-child-eq0 c =
    c.end_row.ensures ∙ sym
    (c.loop-k.invariant.same ∙ row_ends _ _ _ _ _ _ _ _ _ _
    c.loop-k-test.true (sym c.kid-child.ensures ∙ c.if-child-eq0.true))

pub returns-in_err-seen : goal.returns-in_err-seen
returns-in_err-seen c =
    c.from_residual.ensures ∙ sym
    (c.loop-k.invariant.same ∙ Row-Fault _ _ _ _ _ _ _ _ _ _ _
    c.loop-k-test.true
    (λ e. c.if-child-eq0.false (c.kid-child.ensures ∙ e))
    (child_Fault _ _ _ _ _ _ (omega arith) c.see.ensures _ c.kid-child.ensures c.in_err-seen.was))

pub word-hash-requires : goal.word-hash-requires
word-hash-requires c =
    record { lent = c.requires.lent; has_word = has_part _ _ 3 (seen_named _ _ _ _ _ _ _ (read (goal.at.word-hash-requires c).In_ok-seen)) (omega arith) }

pub is_fit-requires : goal.is_fit-requires
is_fit-requires c =
    let s = has_segment _ c.requires.lent.allowed _ c.requires.in_depths in
    record { prefix_fits = s.0; few_bits = s.1; size_fits = c.loop-k.invariant.size_fits }

pub returns-then-not-is_fit : goal.returns-then-not-is_fit
returns-then-not-is_fit c =
    sym
    (c.loop-k.invariant.same ∙ Row-unfit _ _ _ _ _ _ _ _ _ _ _
    c.loop-k-test.true
    (λ e. c.if-child-eq0.false
    (c.kid-child.ensures ∙ e))
    _ _ (read (goal.at.returns-then-not-is_fit c).In_ok-seen)
    (same_fit _ _ _ _ _ _ _ _ _ _ _ c.requires.lead_is_entry
    (seen_named _ _ _ _ _ _ _ (read (goal.at.returns-then-not-is_fit c).In_ok-seen))
    c.word-first.ensures
    c.word-hash.ensures (sym c.is_fit.ensures ∙ c.if-not-is_fit.true)))

pub segment_at-segment-requires : goal.segment_at-segment-requires
segment_at-segment-requires c = has_segment _ c.requires.lent.allowed _ c.requires.in_depths

pub overflow_add-low : goal.overflow_add-low
overflow_add-low c =
    record { fits = omega (arith, (met (goal.at.overflow_add-low c).After-segment_at-segment).small) }

pub overflow_shl-bits : goal.overflow_shl-bits
overflow_shl-bits c =
    (met (goal.at.overflow_shl-bits c).After-segment_at-segment).small

pub overflow_add-bits : goal.overflow_add-bits
overflow_add-bits c =
    record { fits = bits_fit _ _ _ c.loop-k.invariant.bits_below (met (goal.at.overflow_add-bits c).After-segment_at-segment).not_low (met (goal.at.overflow_add-bits c).After-segment_at-segment).small }

pub overflow_add-size : goal.overflow_add-size
overflow_add-size c =
    record {
      fits = omega (arith, (met (goal.at.overflow_add-size c).After-segment_at-segment).few, c.loop-k.invariant.size_fits, c.requires.lent.allowed.few_entries);
    }

pub loop-k-preserved : goal.loop-k-preserved
loop-k-preserved c =
    let m = met (goal.at.loop-k-preserved c).After-segment_at-segment in
    record {
      same = c.loop-k.invariant.same ∙ row_next _ _ _ _ _ _ _ _ _ _ _
          c.loop-k-test.true
          (λ e. c.if-child-eq0.false
          (c.kid-child.ensures ∙ e))
          _ _ m.seen m.fit _ m.segment_is ∙ row_shift _ _ _ _ _ _ _ _ _ _ _ _ _ (omega arith) (omega arith)
          m.small refl;
      bits_below = bits_below _ _ _ c.loop-k.invariant.bits_below m.not_low m.small;
      low_fits = omega (arith, m.small);
      size_fits = omega (arith, m.few, c.loop-k.invariant.size_fits);
    }

pub returns : goal.returns
returns c =
    c.close.ensures ∙ sym
    (c.loop-k.invariant.same ∙ Row-over _ _ _ _ _ _ _ _ _ _ _ (omega (arith, c.loop-k-test.false)))

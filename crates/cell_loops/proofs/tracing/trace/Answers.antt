use Rattle.std.proofs.Common.{◌≡◌, ◌∙◌, length, arith}
use Rattle.cell_loops.specs.Boundary.{boundary_of}
use Rattle.cell_loops.specs.inner.Steps.{is_marked}
use Rattle.cell_loops.proofs.Scans.{IsNext, Scans, next-at, next-on, next-bounds, next-inside, mark-read, scan-starts, scan-passes, scan-free, scan-adds, scan-ends, written-back}
use Rattle.cell_loops.proofs.tracing.trace.Goals as goal

pub place-requires : goal.place-requires
place-requires c = next-on (next-at c.args.region.now c.deref-begin-items.result.now c.loop-begin.begin-index _ (c.deref-begin-items.ensures.value ∙ c.in_ok-edges.ensures) c.loop-begin-test.true)

pub index-requires : goal.index-requires
index-requires c =
    omega (
      arith,
      c.loop-begin.walked.ok.0,
      next-inside c.place.result (next-at c.args.region.now c.deref-begin-items.result.now c.loop-begin.begin-index _ (c.deref-begin-items.ensures.value ∙ c.in_ok-edges.ensures) c.loop-begin-test.true)
          c.loop-begin.invariant c.place.ensures,
    )

pub loop-begin-preserved-then-index : goal.loop-begin-preserved-then-index
loop-begin-preserved-then-index c =
    let next = next-at c.args.region.now c.deref-begin-items.result.now c.loop-begin.begin-index _ (c.deref-begin-items.ensures.value ∙ c.in_ok-edges.ensures) c.loop-begin-test.true in
    scan-passes next c.loop-begin.invariant (mark-read c.place.result c.index.result.now next c.loop-begin.invariant c.place.ensures c.index.ensures ∙ c.if-index.true)

pub follow-requires-clause-bounds : goal.follow-requires-clause-bounds
follow-requires-clause-bounds c = next-bounds (next-at c.args.region.now c.deref-begin-items.result.now c.loop-begin.begin-index _ (c.deref-begin-items.ensures.value ∙ c.in_ok-edges.ensures) c.loop-begin-test.true)

pub follow-requires-clause-unwalked : goal.follow-requires-clause-unwalked
follow-requires-clause-unwalked c =
    let next = next-at c.args.region.now c.deref-begin-items.result.now c.loop-begin.begin-index _ (c.deref-begin-items.ensures.value ∙ c.in_ok-edges.ensures) c.loop-begin-test.true in
    let free = mark-read c.place.result c.index.result.now next c.loop-begin.invariant c.place.ensures c.index.ensures ∙ c.if-index.false in
    rw c.as_mut_slice.ensures.value (scan-free next c.loop-begin.invariant free)

pub loop-begin-preserved : goal.loop-begin-preserved
loop-begin-preserved c =
    let next = next-at c.args.region.now c.deref-begin-items.result.now c.loop-begin.begin-index _ (c.deref-begin-items.ensures.value ∙ c.in_ok-edges.ensures) c.loop-begin-test.true in
    let free = mark-read c.place.result c.index.result.now next c.loop-begin.invariant c.place.ensures c.index.ensures ∙ c.if-index.false in
    let walked = rw c.as_mut_slice.ensures.value at c.in_ok-follow.ensures.walked in
    let written : length c.follow.new.walked ≡ c.loop-begin.walked.len = omega (arith, c.follow.auto.walked, c.as_mut_slice.ensures.len) in
    let same_length : length c.follow.new.walked ≡ length c.loop-begin.walked.items = omega (arith, written, c.loop-begin.walked.ok.0) in
    rw (written-back c.follow.new.walked c.loop-begin.walked.items c.loop-begin.walked.len written, c.in_ok-push.ensures.items)
    (scan-adds c.follow.new.walked c.in_ok-follow.field-0 next c.loop-begin.invariant free c.in_ok-follow.ensures.points walked same_length)

pub returns : goal.returns
returns c =
    let all : c.deref-begin-items.result.now ≡ boundary_of c.args.region.now = c.deref-begin-items.ensures.value ∙ c.in_ok-edges.ensures in
    c.from_vec.ensures ∙ scan-ends (rw all at c.loop-begin-test.false) c.loop-begin.invariant

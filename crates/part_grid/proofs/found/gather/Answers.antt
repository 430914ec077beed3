use Rattle.std.proofs.Common.{sym, refl, arith}
use Rattle.part_grid.proofs.Gathering.{marked-more, unmarked-to, marked-all}
use Rattle.part_grid.proofs.found.gather.Goals as goal

pub loop-number-init : goal.loop-number-init
loop-number-init c =
    let next = c.next_from-number.ensures in
    record {
      within = omega (arith, next.within, c.requires);
      marked = λ less. next.marked (omega (arith, c.requires));
      found = unmarked-to c.args.marks.now c.args.sides.now 0 c.next_from-number.result c.args.found.now.items _ c.requires next.from next.unmarked refl;
    }

pub loop-number-preserved : goal.loop-number-preserved
loop-number-preserved c =
    let next = c.next_from-number-in-loop-number.ensures in
    record {
      within = omega (arith, next.within, c.requires);
      marked = λ less. next.marked (omega (arith, c.requires));
      found =
          unmarked-to c.args.marks.now c.args.sides.now _ c.next_from-number-in-loop-number.result c.push.new.self.items _ c.requires next.from next.unmarked
          (marked-more c.args.marks.now c.args.sides.now c.loop-number.number c.index-sides-number.result c.loop-number.found.items _ _ c.loop-number-test.true c.requires c.index-sides-number.is
          (sym (c.loop-number.invariant.marked c.loop-number-test.true)) c.in_ok-push.ensures.items c.loop-number.invariant.found);
    }

pub returns : goal.returns
returns c = marked-all c.args.marks.now c.args.sides.now c.loop-number.number c.loop-number.found.items _ c.requires c.loop-number-test.false c.loop-number.invariant.found

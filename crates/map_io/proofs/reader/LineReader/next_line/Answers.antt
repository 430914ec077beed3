-- The line is gathered by scans and reads, and the last of them decides the answer.
use Rattle.std.proofs.Common.{◌≡◌, ◌∙◌, sym, ap, subst, refl, List, ℕ, arith}
use Rattle.std.specs.Prelude.{Contains}
use Rattle.std.proofs.lemmas.Grind.{common_steps}
use Rattle.map_io.specs.Reading.{Reading}
use Rattle.map_io.specs.declared.reader.Stop.TheVariants.{Going, AfterFault}
use Rattle.map_io.proofs.Scanning.{scan_had_none}
use Rattle.map_io.proofs.Gathering.{line_ended, gather_all, gather_filled, ends, last_line, breaks_off, reaches_limit}
use Rattle.map_io.proofs.reader.LineReader.next_line.Goals as goal

pub returns-then-scan-clause-gives : goal.returns-then-scan-clause-gives
returns-then-scan-clause-gives g c =
    let passed = ap (λ (r : Reading). r.passed) c.self.view_is in
    line_ended _ _ c.loop-self.self _ _ _ _ c.loop-self.invariant.gathers c.if-scan.ensures (omega (arith, passed, c.begin-began.ensures.passed)) c.sized.ensures

pub loop-self-preserved : goal.loop-self-preserved
loop-self-preserved g c =
    let scan = c.if-scan.ensures in
    let stop = sym (ap (λ (r : Reading). r.stop) c.self-in-loop-self.view_is) ∙ c.in-Going.is in
    record {
      began = c.begin-began.ensures.passed;
      gathers = gather_filled _ c.scan.new.self _ _ _ _ (gather_all _ c.loop-self.self _ _ _ c.loop-self.invariant.gathers scan) (scan.all refl) c.fill.ensures.fills stop;
      unread = λ held.
          let same = c.loop-self.invariant.unread held in
          absurd (scan_had_none _ _ scan (subst (λ (bytes : List ℕ). Contains bytes 10) (sym same.1) held));
      faults = c.fill.ensures.well (λ after. let clash : Going ≡ AfterFault = sym stop ∙ after in cc) ∙ c.loop-self.invariant.faults;
      within = c.fill.ensures.fills.within;
    }

pub returns-in-AtEnd-clause-gives : goal.returns-in-AtEnd-clause-gives
returns-in-AtEnd-clause-gives g c =
    let scan = c.if-scan.ensures in
    let stop = sym (ap (λ (r : Reading). r.stop) c.self-in-loop-self.view_is) ∙ c.in-AtEnd.is in
    let passed = ap (λ (r : Reading). r.passed) c.self-in-loop-self.view_is in
    ends _ c.scan.new.self _ _ _ _ (gather_all _ c.loop-self.self _ _ _ c.loop-self.invariant.gathers scan) (scan.all refl) c.fill.ensures.fills stop
    (omega (arith, passed, c.if-self-began.true, c.begin-began.ensures.passed))

pub returns-in-AtEnd-2-clause-gives : goal.returns-in-AtEnd-2-clause-gives
returns-in-AtEnd-2-clause-gives g c =
    let scan = c.if-scan.ensures in
    let stop = sym (ap (λ (r : Reading). r.stop) c.self-in-loop-self.view_is) ∙ c.in-AtEnd.is in
    let passed = ap (λ (r : Reading). r.passed) c.self-in-loop-self.view_is in
    last_line _ _ c.scan.new.self _ _ _ _ _ (gather_all _ c.loop-self.self _ _ _ c.loop-self.invariant.gathers scan) (scan.all refl) c.fill.ensures.fills stop
    (λ same. c.if-self-began.false (passed ∙ same ∙ sym c.begin-began.ensures.passed))
    (omega (arith, passed, c.begin-began.ensures.passed)) c.sized-in-AtEnd-2.ensures

pub returns-in-AfterFault-clause-gives : goal.returns-in-AfterFault-clause-gives
returns-in-AfterFault-clause-gives g c =
    let scan = c.if-scan.ensures in
    let stop = sym (ap (λ (r : Reading). r.stop) c.self-in-loop-self.view_is) ∙ c.in-AfterFault.is in
    breaks_off _ c.scan.new.self _ _ _ _ (gather_all _ c.loop-self.self _ _ _ c.loop-self.invariant.gathers scan) (scan.all refl) c.fill.ensures.fills stop

pub returns-in-AtLimit-clause-gives : goal.returns-in-AtLimit-clause-gives
returns-in-AtLimit-clause-gives g c =
    let scan = c.if-scan.ensures in
    let stop = sym (ap (λ (r : Reading). r.stop) c.self-in-loop-self.view_is) ∙ c.in-AtLimit.is in
    reaches_limit _ c.scan.new.self _ _ _ _ (gather_all _ c.loop-self.self _ _ _ c.loop-self.invariant.gathers scan) (scan.all refl) c.fill.ensures.fills stop

pub loop-self-init : goal.loop-self-init
loop-self-init g c = grind (arith, common_steps)

use Rattle.std.proofs.Common.{◌≡◌, ◌∙◌, length, All, ap, arith, sym, subst}
use Rattle.noise_map.specs.declared.run.status.Report.{Report}
use Rattle.map_lock.specs.Seats.{BoardSeat}
use Rattle.noise_map.specs.inner.Teams.{IsBack, IsBeginner}
use Rattle.noise_map.specs.Outcome.{RunOutcome}
use Rattle.noise_map.proofs.RowsWritten.{none_asked}
use Rattle.noise_map.proofs.Wholes.{seats-back, whole-asked}
use Rattle.noise_map.proofs.run.run_asked.Goals as goal

pub returns-in_default-clause-outcome : goal.returns-in_default-clause-outcome
returns-in_default-clause-outcome g c =
    let left = g.S.Source.left c.args.input.now in
    let taken = g.K.Sink.taken c.args.out.now in
    subst (λ (r : Report). RunOutcome c.args.words r.status r.lines r.seat left left taken taken) (sym c.not_begun.ensures) (none_asked c.args.words.make c.args.words left taken)

pub returns-in_default-new-clause-outcome : goal.returns-in_default-new-clause-outcome
returns-in_default-new-clause-outcome g c =
    let left = g.S.Source.left c.args.input.now in
    let taken = g.K.Sink.taken c.args.out.now in
    subst (λ (r : Report). RunOutcome c.args.words r.status r.lines r.seat left left taken taken) (sym c.not_begun-in_default-new.ensures) (none_asked c.args.words.make c.args.words left taken)

pub join_all-requires-clause-theirs : goal.join_all-requires-clause-theirs
join_all-requires-clause-theirs g c =
    let team = c.in-Ok.team in
    let seats = c.edit_beside-ending.new.workers in
    let same : length seats ≡ length team.workers.items = omega (arith, c.edit_beside-ending.auto.workers, ap length c.as_mut_slice.ensures.value) in
    subst (All (IsBack team.lock)) (sym (seats-back seats team.workers.items team.workers.len (omega (arith, team.workers.ok.0)) same)) c.edit_beside-ending.ensures.back

pub returns-clause-outcome : goal.returns-clause-outcome
returns-clause-outcome g c =
    let team = c.in-Ok.team in
    let gathered = c.in-Ok.ensures in
    let seats = c.edit_beside-ending.new.workers in
    let same : length seats ≡ length team.workers.items = omega (arith, c.edit_beside-ending.auto.workers, ap length c.as_mut_slice.ensures.value) in
    let back = seats-back seats team.workers.items team.workers.len (omega (arith, team.workers.ok.0)) same in
    let editor = c.in-Ok-new.editor in
    whole-asked c.args.words.make c.args.words team.lock c.edit_beside-ending.result.status c.edit_beside-ending.result.lines editor.seat c.edit_beside-ending.new.editor.seat c.join_all.new.editor
    (g.S.Source.left c.args.input.now) (g.S.Source.left c.edit_beside-ending.new.input) (g.K.Sink.taken c.args.out.now) (g.K.Sink.taken c.edit_beside-ending.new.out)
    (subst (λ (seat : BoardSeat). IsBeginner team.lock c.args.words.workers seat) (sym c.in-Ok-new.ensures.seat) gathered.editor) c.edit_beside-ending.ensures.finished _ (ap length back ∙ (same ∙ gathered.all)) c.join_all.ensures

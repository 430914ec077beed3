use Rattle.std.proofs.Common.{◌≡◌, ◌+◌, ◌++◌, [], ◌∷◌, length, ap, subst, ◌∙◌, arith, length-append}
use Rattle.std.specs.Prelude.{All}
use Rattle.map_lock.specs.Seats.{BoardSeat}
use Rattle.noise_map.specs.inner.Teams.{IsBack, HasJoinedAll}
use Rattle.noise_map.proofs.KeptVersions.{all-front}
use Rattle.noise_map.proofs.Teams.{none-joined, one-joined, all-last}
use Rattle.noise_map.proofs.run.team.join_all.Goals as goal

pub loop-worker-init : goal.loop-worker-init
loop-worker-init c = record { joined = (0, omega arith, none-joined c.args.lock.now c.args.editor.now c.requires.sound); left = c.requires.theirs; own = c.requires.own }

pub loop-worker-preserved : goal.loop-worker-preserved
loop-worker-preserved c =
    let worker = c.in-Some.worker in
    let left = c.pop.new.self.items in
    let items : c.loop-worker.workers.items ≡ left ++ worker ∷ [] = c.in-Some.ensures.items in
    let all : All (IsBack c.args.lock.now) (left ++ worker ∷ []) = subst (All (IsBack c.args.lock.now)) items c.loop-worker.invariant.left in
    let so_far = c.loop-worker.invariant.joined in
    record {
      joined = (
        so_far.0 + 1,
        omega (arith, so_far.1, ap length items, length-append left (worker ∷ [])),
        one-joined c.args.lock.now c.args.editor.now c.loop-worker.editor c.join_worker.new.editor worker so_far.0 so_far.2 (all-last (IsBack c.args.lock.now) left worker all)
            c.join_worker.ensures.both c.join_worker.ensures.seen c.join_worker.ensures.sound,
      );
      left = all-front (IsBack c.args.lock.now) left (worker ∷ []) all;
      own = ap (λ (seat : BoardSeat). seat.table) c.join_worker.ensures.both ∙ c.loop-worker.invariant.own;
    }

pub returns : goal.returns
returns c =
    let so_far = c.loop-worker.invariant.joined in
    let all : so_far.0 ≡ length c.args.workers.items = omega (arith, so_far.1, c.in_default.ensures.cases.0) in
    subst (λ n. HasJoinedAll c.args.lock.now c.args.editor.now n c.loop-worker.editor) all so_far.2

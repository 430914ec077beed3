-- What contracts see of a job's and an answer's fields.
use Rattle.path_cache.specs.Refreshed.{count_wanted}
use Rattle.map_board.specs.declared.jobs.Job.TheInside.{Inside as JobInside}
use Rattle.map_board.specs.declared.jobs.Answer.TheInside.{Inside as AnswerInside}
use Rattle.map_board.specs.Views.{Job, Answer}

abbrev pub job_seen : JobInside → Job
job_seen j =
    let r = j.receiver in
    let scene = j.scene.value in
    let due = count_wanted scene r j.kept.items j.marks.items in
    record { version = j.version; receiver = r; scene = scene; kept = j.kept.items; marks = j.marks.items; due = due }

abbrev pub answer_seen : AnswerInside → Answer
answer_seen a = record {
  version = a.version;
  receiver = a.receiver;
  scene = a.scene.value;
  bundles = a.bundles.items;
  levels = a.levels;
}

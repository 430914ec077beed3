-- The answer to a job that a board has just handed out may land on it.
use Rattle.std.proofs.Common.{ℕ, sym, ap, ◌∙◌, subst, arith, refl, Some, inr}
use Rattle.scene_parts.specs.Parts.{Receiver}
use Rattle.path_cache.proofs.Rightness.{refreshed-is}
use Rattle.map_board.specs.Views.{Job, Answer}
use Rattle.map_board.specs.Journal.{scene_at}
use Rattle.map_board.specs.Rows.{State}
use Rattle.map_board.specs.Jobs.{Answers, IsRight, MayReturn}
use Rattle.map_board.specs.Machine.{TakesJob, with_out}
use Rattle.map_board.proofs.Keeping.{this-row}

module _ (before after : State) (job : Job) (answer : Answer) (took : TakesJob before job after) (is : Answers job answer) where
  job-may : MayReturn after.journal after.rows job.version job.receiver
  job-may =
      subst (λ (s : State). MayReturn s.journal s.rows job.version job.receiver) (sym took.leaves)
      (record {
        past = omega (arith, took.version);
        awaited = inr (record {
          row = with_out (Some job.version) took.row;
          found = this-row job.receiver.name (with_out (Some job.version)) (λ row. refl) before.rows took.row took.named;
          receiver = took.receiver;
          out = refl;
        });
      })

  pub may-land : MayReturn after.journal after.rows answer.version answer.receiver
  may-land =
      subst (λ (p : ℕ × Receiver). MayReturn after.journal after.rows p.0 p.1) (λ i. (sym is.version i, sym is.receiver i)) job-may

  pub right-answer : IsRight after.journal answer
  right-answer = record {
    scene = is.scene ∙ (took.fit.scene ∙ ap (scene_at after.journal) (sym is.version));
    bundles = rw (is.scene, is.receiver) (is.bundles ∙ refreshed-is job.scene job.receiver job.kept job.marks took.fit.kept);
    levels = is.levels;
  }

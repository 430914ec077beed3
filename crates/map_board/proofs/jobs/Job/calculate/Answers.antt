use Rattle.std.proofs.Common.{◌≡◌, ◌+◌, ◌≤◌, ◌∙◌, [], eqb, length, ap, sym, subst, false}
use Rattle.std.specs.Prelude.{Bool, Option, IfSome, List}
use Rattle.std.proofs.lemmas.Bool.{eqb-true}
use Rattle.std.proofs.lemmas.Simd.{splat_is_map}
use Rattle.scene_parts.specs.Parts.{Receiver}
use Rattle.scene_book.specs.Book.{Book}
use Rattle.path_calc.specs.Bundles.{Bundle}
use Rattle.path_cache.specs.declared.refreshing.Renewal.{Renewal}
use Rattle.path_cache.specs.Refreshed.{refreshed, count_wanted}
use Rattle.path_cache.specs.Renewals.{Gives}
use Rattle.path_cache.proofs.Receivers.{refreshed-receivers, count_wanted-receivers}
use Rattle.path_cache.proofs.Standing.{refreshed-stands}
use Rattle.map_board.specs.declared.jobs.Calculation.{Calculation}
use Rattle.map_board.specs.declared.scenes.PreparedScene.{PreparedScene}
use Rattle.map_board.specs.inner.Calculated.{IsCalculated}
use Rattle.map_board.specs.Views.{Job}
use Rattle.map_board.proofs.jobs.Job.calculate.Goals as goal
use Rattle.map_board.proofs.jobs.Job.calculate.Given.{Over}
use Rattle.map_board.proofs.jobs.Job.calculate.Goals.{After-of-renewal}

-- the scene that the job has is its own, but for the receivers
scene-is : (g : Over) (c : After-of-renewal g) → c.in-Some.hold.scene ≡ record c.self.inside.scene.value { receivers = [] }
scene-is g c =
    subst (λ (o : Option PreparedScene). IfSome o (λ prepared. prepared.scene ≡ record c.self.inside.scene.value { receivers = [] })) c.in-Some.is c.self.invariant.1.hold

-- so what is refreshed is what the job has
record IsOf (book : Book) (r : Receiver) (keeps : List Bundle) (marks : List Bool) (row : Renewal) : Type 0 where
  scene : row.scene.now ≡ record book { receivers = [] }
  receiver : row.receiver.now ≡ r
  kept : row.kept.now ≡ keeps
  marked : row.marks.now ≡ marks

row-is : (g : Over) (c : After-of-renewal g)
    → IsOf c.self.inside.scene.value c.self.inside.receiver c.self.inside.kept.items c.self.inside.marks.items c.of-renewal.result
row-is g c = record {
  scene = c.of-renewal.ensures.scene ∙ c.indexed_beside-scene.ensures ∙ scene-is g c;
  receiver = c.of-renewal.ensures.receiver ∙ c.in_ok-receiver.ensures;
  kept = c.of-renewal.ensures.kept ∙ c.deref-3.ensures.value;
  marked = c.of-renewal.ensures.marks ∙ c.deref-4.ensures.value;
}

pub returns-clause-made : goal.returns-clause-made
returns-clause-made g c =
    let b = c.self.inside in
    let book : Book = b.scene.value in
    let at = (goal.at.returns-clause-made g c).After-of-renewal in
    let is = row-is g at in
    let row = c.of-renewal.result in
    let wanted : List Bundle = refreshed book b.receiver b.kept.items b.marks.items in
    let same : refreshed row.scene.now row.receiver.now row.kept.now row.marks.now ≡ wanted =
    (λ i. refreshed (is.scene i) (is.receiver i) (is.kept i) (is.marked i)) ∙ refreshed-receivers [] book b.receiver b.kept.items b.marks.items in
    let made : Calculation = record { renewed = c.in_ok-renewed.renewed; marks = c.in_ok-marks.marks; stand = eqb c.len-2.result (length c.sources.result.now); to = c.receiver.inside.at } in
    let gives : Gives c.in_ok-renewed.renewed b.kept.items wanted =
    subst (λ (x : List Bundle × List Bundle). Gives c.in_ok-renewed.renewed x.0 x.1) (λ i. (is.kept i, same i)) c.in_ok-renewed.ensures.value in
    subst (λ (j : Job). IsCalculated j made) c.self.view_is (record {
      gives = gives;
      plain = c.in_ok-marks.ensures.items_if_clones_equal (λ y h. h) ∙ splat_is_map wanted c.len.result false (sym (c.len.ensures b.kept.items wanted gives));
      few = subst (λ bundles. length bundles ≤ 128) same c.in_ok-renewed.ensures.few;
      of_each = λ known.
          let full : length wanted ≡ length book.sources =
          sym (c.len-2.ensures b.kept.items wanted gives)
          ∙ (eqb-true c.len-2.result (length c.sources.result.now) known
          ∙ ap length (c.sources.ensures.value ∙ ap (λ (x : Book). x.sources) (scene-is g at))) in
          (refreshed-stands book b.receiver b.kept.items b.marks.items full).of_each;
    })

pub returns-clause-steps : goal.returns-clause-steps
returns-clause-steps g c =
    let b = c.self.inside in
    let book : Book = b.scene.value in
    let is = row-is g (goal.at.returns-clause-steps g c).After-of-renewal in
    c.in_ok-renewed.ensures.steps
    ∙ ap (λ n. c.args.steps.now + n)
    ((λ i. count_wanted (is.scene i) (is.receiver i) (is.kept i) (is.marked i))
    ∙ (count_wanted-receivers [] book b.receiver b.kept.items b.marks.items ∙ ap (λ (j : Job). j.due) c.self.view_is))

use Rattle.std.proofs.Common.{◌≡◌, ◌∙◌, ap, subst, not, ℕ, List}
use Rattle.std.specs.Prelude.{Option, find, is_some, IfOk}
use Rattle.scene_parts.specs.Parts.{Receiver}
use Rattle.scene_book.specs.Lists.{named}
use Rattle.level_contours.specs.GridNames.{names_of, first_missing_of}
use Rattle.level_contours.specs.inner.Filing.{is_absent}
use Rattle.level_contours.proofs.Found.{find-agree}
use Rattle.level_contours.proofs.missing.missing_of.Goals as goal

pub returns : goal.returns
unfolding is_absent
returns c =
    let same : find (is_absent c.in_ok-names.names.entries) (names_of c.args.spec.now) ≡ first_missing_of c.args.spec.now c.args.scene.now =
    find-agree (is_absent c.in_ok-names.names.entries) (λ name. not (is_some (named (λ (r : Receiver). r.name) name c.args.scene.now.receivers)))
    (λ name. ap not (c.in_ok-names.ensures name ∙ ap (λ (rs : List Receiver). is_some (named (λ (r : Receiver). r.name) name rs)) c.receivers.ensures.value))
    (names_of c.args.spec.now) in
    subst (λ (m : Option (List ℕ)). IfOk c.find_missing.result (λ missing. missing ≡ m)) same c.find_missing.ensures

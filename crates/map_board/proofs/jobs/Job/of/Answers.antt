use Rattle.std.proofs.Common.{◌≡◌, ℕ, ◌<◌, length, refl, sym, subst, List, []}
use Rattle.std.specs.Prelude.{Option, Result, Ok, Err, IfOk, IfSome, Some, slice_get, slice_index_or}
use Rattle.std.specs.Result.{result_ok}
use Rattle.std.proofs.lemmas.Option.{slice_get_read}
use Rattle.scene_parts.specs.Parts.{Receiver}
use Rattle.scene_book.specs.Book.{Book}
use Rattle.path_cache.specs.Standing.{AreOfEach}
use Rattle.map_board.specs.declared.scenes.PreparedScene.{PreparedScene}
use Rattle.map_board.specs.inner.Held.{AreWithin}
use Rattle.map_board.proofs.jobs.Job.of.Goals as goal
use Rattle.map_board.proofs.jobs.Job.of.Goals.{After-ok}

-- a receiver that was read at a place of a list that is another stands there
stands : (read all : List Receiver) (place : ℕ) (r stored : Receiver) → read ≡ all → stored ≡ r → place < length all → r ≡ slice_index_or read place r → slice_get all place ≡ Some stored
stands read all place r stored list same less is =
    subst (λ (l : List Receiver). slice_get l place ≡ Some stored) list
    (slice_get_read read (length read) place stored refl (subst (λ (l : List Receiver). place < length l) (sym list) less) (subst (λ (x : Receiver). x ≡ slice_index_or read place x) (sym same) is))

-- what there is of a result that may be there
kept-ok : {A E : Type 0} (P : A → Type 0) (result : Result A E) (there : Option A) → there ≡ result_ok result → IfOk result P → IfSome there P
kept-ok P (Ok x) there is holds = subst (λ o. IfSome o P) (sym is) holds
kept-ok P (Err e) there is holds = subst (λ o. IfSome o P) (sym is) tt

at : (c : After-ok) → slice_get c.args.hold.now.scene.receivers c.args.place ≡ Some c.of.result
at c =
    stands c.receivers.result.now c.args.hold.now.scene.receivers c.args.place c.index-receivers-place.result c.of.result c.receivers.ensures.value c.of.ensures
    c.requires.place c.index-receivers-place.is

pub invariant_of-result-2 : goal.invariant_of-result-2
invariant_of-result-2 c =
    let there = at (goal.at.invariant_of-result-2 c).After-ok in
    let scene : c.of-2.result.value ≡ c.args.hold.now.scene = c.of-2.ensures in (
      record {
        stands = subst (λ (b : Book). slice_get b.receivers c.args.place ≡ Some c.of.result) (sym scene) there;
        kept = c.requires.kept;
        within = subst (λ (b : Book). AreWithin b c.of.result c.args.cache.bundles.items c.args.cache.marks.items) (sym scene) (c.requires.within c.of.result there);
        due = refl;
      },
      record {
        hold = subst (λ (b : Book). IfSome c.ok.result (λ (prepared : PreparedScene). prepared.scene ≡ record b { receivers = [] })) (sym scene)
            (kept-ok (λ (prepared : PreparedScene). prepared.scene ≡ record c.args.hold.now.scene { receivers = [] }) c.without_receivers.result c.ok.result
            c.ok.ensures.value c.without_receivers.ensures);
        fit = c.args.cache.fit;
        of_each = λ known. subst (λ (b : Book). AreOfEach b.sources c.args.cache.bundles.items) (sym scene) (c.requires.stand known);
      },
    )

pub returns : goal.returns
returns c =
    record {
      at_version = refl;
      at_place = at (goal.at.returns c).After-ok;
      of_scene = c.of-2.ensures;
      bundles = refl;
      marked = refl;
      due = refl;
    }

use Rattle.scene_geom.specs.declared.band.Band.{Band}
use Rattle.term_barrier.specs.Limits.{IsScreening}
use Rattle.path_calc.specs.inner.Hearing.{where_asked, is_asked, bar_over, edges_among}
use Rattle.path_calc.proofs.Pushed.{all-eight, mapped-eight}
use Rattle.path_calc.proofs.direct.screening.bars.Goals as goal

pub bar_asked-requires-clause-edges : goal.bar_asked-requires-clause-edges
bar_asked-requires-clause-edges c = c.requires.edges

pub bar_asked-requires-clause-ground : goal.bar_asked-requires-clause-ground
bar_asked-requires-clause-ground c = c.requires.ground

pub bar_asked-requires-2-clause-edges : goal.bar_asked-requires-2-clause-edges
bar_asked-requires-2-clause-edges c = c.requires.edges

pub bar_asked-requires-2-clause-ground : goal.bar_asked-requires-2-clause-ground
bar_asked-requires-2-clause-ground c = c.requires.ground

pub bar_asked-requires-3-clause-edges : goal.bar_asked-requires-3-clause-edges
bar_asked-requires-3-clause-edges c = c.requires.edges

pub bar_asked-requires-3-clause-ground : goal.bar_asked-requires-3-clause-ground
bar_asked-requires-3-clause-ground c = c.requires.ground

pub bar_asked-requires-4-clause-edges : goal.bar_asked-requires-4-clause-edges
bar_asked-requires-4-clause-edges c = c.requires.edges

pub bar_asked-requires-4-clause-ground : goal.bar_asked-requires-4-clause-ground
bar_asked-requires-4-clause-ground c = c.requires.ground

pub bar_asked-requires-5-clause-edges : goal.bar_asked-requires-5-clause-edges
bar_asked-requires-5-clause-edges c = c.requires.edges

pub bar_asked-requires-5-clause-ground : goal.bar_asked-requires-5-clause-ground
bar_asked-requires-5-clause-ground c = c.requires.ground

pub bar_asked-requires-6-clause-edges : goal.bar_asked-requires-6-clause-edges
bar_asked-requires-6-clause-edges c = c.requires.edges

pub bar_asked-requires-6-clause-ground : goal.bar_asked-requires-6-clause-ground
bar_asked-requires-6-clause-ground c = c.requires.ground

pub bar_asked-requires-7-clause-edges : goal.bar_asked-requires-7-clause-edges
bar_asked-requires-7-clause-edges c = c.requires.edges

pub bar_asked-requires-7-clause-ground : goal.bar_asked-requires-7-clause-ground
bar_asked-requires-7-clause-ground c = c.requires.ground

pub bar_asked-requires-8-clause-edges : goal.bar_asked-requires-8-clause-edges
bar_asked-requires-8-clause-edges c = c.requires.edges

pub bar_asked-requires-8-clause-ground : goal.bar_asked-requires-8-clause-ground
bar_asked-requires-8-clause-ground c = c.requires.ground

pub returns-clause-value : goal.returns-clause-value
returns-clause-value c =
    let screens = c.args.screens.now in
    mapped-eight (λ (band : Band). where_asked (is_asked c.args.asked.now band)
    (bar_over screens.path (edges_among band c.args.crossings.now) screens.d c.args.ground.now band))
    c.in_ok-at_63.ensures.value c.in_ok-at_125.ensures.value c.in_ok-at_250.ensures.value c.in_ok-at_500.ensures.value
    c.in_ok-at_1000.ensures.value c.in_ok-at_2000.ensures.value c.in_ok-at_4000.ensures.value c.in_ok-at_8000.ensures.value

pub returns-clause-bounds : goal.returns-clause-bounds
returns-clause-bounds c =
    all-eight IsScreening
    c.in_ok-at_63.at_63 c.in_ok-at_125.at_125 c.in_ok-at_250.at_250 c.in_ok-at_500.at_500
    c.in_ok-at_1000.at_1000 c.in_ok-at_2000.at_2000 c.in_ok-at_4000.at_4000 c.in_ok-at_8000.at_8000
    c.in_ok-at_63.ensures.bounds c.in_ok-at_125.ensures.bounds c.in_ok-at_250.ensures.bounds c.in_ok-at_500.ensures.bounds
    c.in_ok-at_1000.ensures.bounds c.in_ok-at_2000.ensures.bounds c.in_ok-at_4000.ensures.bounds c.in_ok-at_8000.ensures.bounds

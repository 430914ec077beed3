-- What drawing does to a state and to a text.
use Rattle.std.specs.Prelude.{◌≡◌, List, ℕ, ◌++◌, string_bytes}
use Rattle.site_maker.specs.Draws.{Drawing}
use Rattle.site_maker.specs.declared.maker.Maker.{Maker}

-- the state was the first, is the second, and this was drawn
pub record IsDrawn {A : Type 0} (drawing : Drawing A) (old new : ℕ) (drawn : A) : Type 0 where
  pub value : drawn ≡ (drawing old).0
  pub state : new ≡ (drawing old).1

-- a text has become longer by what was drawn
pub record Adds (drawing : Drawing (List ℕ)) (old new : Maker) : Type 0 where
  pub text : string_bytes new.text ≡ string_bytes old.text ++ (drawing old.draws.state).0
  pub state : new.draws.state ≡ (drawing old.draws.state).1

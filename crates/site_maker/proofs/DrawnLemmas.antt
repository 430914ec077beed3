-- Lines that are drawn, one after another.
use Rattle.std.proofs.Common.{◌≡◌, ℕ, List, ◌++◌, Result, Ok, Err, IfOk, string_bytes, String, Global, ◌∙◌, ap, append_assoc}
use Rattle.site_maker.specs.Draws.{Drawing}
use Rattle.site_maker.specs.Site.{◌then◌}
use Rattle.site_maker.specs.inner.Making.{IsDrawn, Adds}
use Rattle.site_maker.specs.declared.maker.Maker.{Maker}
use Rattle.site_maker.specs.declared.memory.NoMemory.{NoMemory}

-- a line that may lack memory
pub line_drawn : (drawing : Drawing (List ℕ)) (old new : ℕ) (result : Result (String Global) NoMemory) (line : List ℕ)
    → IfOk result (λ text. string_bytes text ≡ line) → line ≡ (drawing old).0 → new ≡ (drawing old).1
    → IfOk result (λ text. IsDrawn drawing old new (string_bytes text))
line_drawn drawing old new (Ok text) line is value state = record { value = is ∙ value; state = state }
line_drawn drawing old new (Err fault) line is value state = tt

pub adds_then : (first next : Drawing (List ℕ)) (old now new : Maker) → Adds first old now → Adds next now new → Adds (first then next) old new
adds_then first next old now new a b = record {
  text = b.text ∙ ap (λ t. t ++ (next now.draws.state).0) a.text ∙ append_assoc (string_bytes old.text) (first old.draws.state).0 (next now.draws.state).0 ∙ ap (λ s. string_bytes old.text ++ ((first old.draws.state).0 ++ (next s).0)) a.state;
  state = b.state ∙ ap (λ s. (next s).1) a.state;
}

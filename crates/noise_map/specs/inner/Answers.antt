-- How many receivers an answer shows.
use Rattle.std.specs.Prelude.{◌≤◌, length}
use Rattle.scene_book.specs.Book.{most_receivers}
use Rattle.noise_map.specs.declared.lines.answer.Answer.{Answer}
use Rattle.noise_map.specs.declared.lines.answer.Answer.TheVariants.{Settled, Looked, Contoured}

-- what is shown has as many receivers as a scene may hold
abbrev pub ShowsFew : Answer → Type 0
ShowsFew (Settled look) = length look.rows ≤ most_receivers
ShowsFew (Looked look) = length look.rows ≤ most_receivers
ShowsFew (Contoured contour look) = length look.rows ≤ most_receivers
ShowsFew answer = Unit {0}

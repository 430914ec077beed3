-- What a reader keeps of its buffers.
use Rattle.std.specs.Prelude.{◌≡◌, ◌+◌, ◌-◌, ◌≤◌, length}
use Rattle.std.specs.Vec.{vec_capacity}
use Rattle.map_io.specs.Reading.{line_limit, input_limit, read_size}
use Rattle.map_io.specs.declared.reader.LineReader.TheInside.{Inside}

-- the line has its room, what is held lies within the read buffer, and no more than the limit was read
pub record IsSound (r : Inside) : Type 0 where
  pub short : length r.line.items ≤ line_limit
  pub room : line_limit ≤ vec_capacity r.line
  pub size : length r.buffer.items ≡ read_size
  pub ordered : r.start ≤ r.end
  pub inside : r.end ≤ read_size
  pub within : r.passed + (r.end - r.start) ≤ input_limit

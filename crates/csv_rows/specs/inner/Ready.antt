-- A writer of the kit between two rows.
use Rattle.std.specs.Prelude.{◌≡◌, false, []}
use Rattle.csv.specs.Writing.{default_writer, fields_written, has_written, writer_pending, writer_setup}
use Rattle.csv.specs.declared.writer.Writer.{Writer}

-- It writes by the defaults, stands at the start of a record, and holds nothing back from the writer underneath.
pub record IsReady {W : Type 0} (writer : Writer W) : Type 0 where
  pub setup : writer_setup writer ≡ default_writer
  pub fields : fields_written writer ≡ 0
  pub wrote : has_written writer ≡ false
  pub pending : writer_pending writer ≡ []

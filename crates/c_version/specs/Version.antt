-- The version of header and archive.
use Rattle.std.specs.Prelude.{ℕ}

abbrev pub version : ℕ
version = 2

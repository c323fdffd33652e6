-- The listing's machine as a reader. Assumes nothing.
use Rattle.std.specs.Prelude.{Bool, true, false}
use Rattle.reader.specs.Reader.{Reader}
use Rattle.listing.specs.Machine.{eat, start}
use Rattle.listing.specs.declared.known.Known.{Known}
use Rattle.listing.specs.declared.machine.Reading.{Reading}
use Rattle.listing.specs.declared.machine.Reading.TheVariants.{Dead, Ended, At}

abbrev pub ends : Reading → Bool
ends Dead = false
ends Ended = true
ends (At s) = false

abbrev pub alive : Reading → Bool
alive Dead = false
alive Ended = true
alive (At s) = true

abbrev pub listing : Known → Reader
listing r = record { State = Reading; start = start; eat = eat r; ends = ends; alive = alive }

-- What the panel makes known to the reader of its listings. Assumes nothing.
use Rattle.wiring.specs.Panel.{cards}
use Rattle.wiring.specs.declared.panel.Panel.{Panel}
use Rattle.listing.specs.declared.known.Known.{Known}

abbrev pub known_to : Panel → Known
known_to panel = record { n = panel.n; marks = panel.marks; cards = cards }

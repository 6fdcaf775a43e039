-- What contracts say of the attributes of the families without a peer.
use Rattle.linkinfo_data.specs.contracts.families.PlainPlainFamilies.TheImpl.{ghosts}
use Rattle.linkinfo_data.specs.declared.families.PlainFamilies.{Ghosts}
use Rattle.linkinfo_data.specs.declared.families.Plain.{Plain}

abbrev pub plain : Ghosts Plain
plain = ghosts

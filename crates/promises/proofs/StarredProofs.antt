-- Each layer proves its own cases, by computation.
-- Assumes nothing.
use Rattle.characters_stream.proofs.CaseProofs.{character_cases}
use Rattle.link_laws.proofs.CaseProofs.{link_cases}
use Rattle.router.proofs.CaseProofs.{router_cases}
use Rattle.promises.specs.Starred.{StarredCases}

pub starred_cases : StarredCases
starred_cases = record { characters = character_cases; link = link_cases; router = router_cases }

-- 01, Numbers to hold it to: "Starred cases are proved about the definitions, gathered under a single statement."
-- Assumes nothing.
use Rattle.characters_stream.specs.Cases.{CharacterCases}
use Rattle.link_laws.specs.Cases.{LinkCases}
use Rattle.router.specs.Cases.{RouterCases}

pub record StarredCases : Type 0 where
  -- the parity error at bit 14, the escape error at 16, Time-Code 5 at bit 24
  pub characters : CharacterCases
  -- ticks 63, 64, 192 and 193; the credit held and given out; the first two sends in Connecting; the time count
  pub link : LinkCases
  -- row 39 written twice; and, not starred, the two runs
  pub router : RouterCases

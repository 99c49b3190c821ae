-- What is refused for what it is lent is refused for that, whatever the later tests say.
-- Assumes nothing.
use Rattle.std.proofs.Common.{◌≡◌, ◌∙◌, arith}
use Rattle.std.proofs.lemmas.Grind.{common_steps}
use Rattle.vocabulary.specs.Refusals.{number, refusal_in}
use Rattle.router_ports.specs.Places.{machine}
use Rattle.router_ports.specs.RouterWords.{router_of}
use Rattle.router.proofs.RefusalLaws.{lent_first}
use Rattle.router.proofs.put_refusal.Goals as goal

pub returns-in_err-lent_refusal : goal.returns-in_err-lent_refusal
returns-in_err-lent_refusal c =
    let a = c.args in
    let r = c.in_err-lent_refusal.field-0.0 in
    let told : refusal_in c.from_residual.result ≡ number r = grind (arith, common_steps) in
    told ∙ lent_first a.words.now (machine (router_of a.words.now) a.area.now) r _ c.in_err-lent_refusal.ensures

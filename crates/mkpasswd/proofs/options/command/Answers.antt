-- `command` returns the command of the definition. Its calls of `clap` set one field after another and then add the
-- arguments. Each argument has the rule that the function that made it promises, so the result is the fold over the
-- rules. The proof is by induction over the arguments.
use Rattle.std.proofs.Common.{◌≡◌, ◌∙◌, List, [], ◌∷◌, true, fold, ap, sym}
use Rattle.std.specs.Prelude.{⊤}
use Rattle.std.proofs.lemmas.Result.{IfOk-weaker}
use Rattle.clap.specs.Simple.{App, app_of, app_of_fields, on_top, with_rule}
use Rattle.clap.specs.Walk.{Rule}
use Rattle.clap.specs.Words.{AddsArg, AddsInTurn}
use Rattle.clap.specs.declared.builder.arg.Arg.{Arg}
use Rattle.clap.specs.declared.builder.command.Command.{Command}
use Rattle.mkpasswd.specs.Options.{command, command_rules}
use Rattle.mkpasswd.specs.Private.Options.{HasRule}
use Rattle.mkpasswd.proofs.options.command.Goals as goal

-- Each argument has the rule at the same place in the list of rules.
abbrev HaveRules : List Arg → List Rule → Type 0
HaveRules [] [] = ⊤
HaveRules (arg ∷ args) (rule ∷ rules) = HasRule arg rule × HaveRules args rules
HaveRules args rules = ⊥

-- Adding arguments that have these rules adds the rules to the command, in the same order.
app_of-args : (before after : Command) (args : List Arg) (rules : List Rule) → AddsInTurn AddsArg before args after → HaveRules args rules
    → app_of after ≡ fold with_rule (app_of before) rules
app_of-args before after [] [] same have = ap app_of (sym same)
app_of-args before after (arg ∷ args) (rule ∷ rules) (mid, adds, others) (has, have) =
    app_of-args mid after args rules others have
    ∙ ap (λ (app : App). fold with_rule app rules) (adds.shape has.1 ∙ ap (with_rule (app_of before)) has.0)
app_of-args before after [] (rule ∷ rules) adds have = absurd have
app_of-args before after (arg ∷ args) [] adds have = absurd have

-- `a & b` is the pair of `a` and `b`. It makes long nested pairs readable.
infixr 35 ◌&◌
◌&◌ : {A B : Type 0} → A → B → A × B
first & others = (first, others)

pub returns : goal.returns
unfolding command
returns c =
    let version_is = ap app_of_fields c.version.ensures ∙ ap (on_top (λ s. record s { has_version = true })) c.new.ensures.app in
    let named_is = ap app_of_fields c.after_help.ensures ∙ ap app_of_fields c.about.ensures ∙ version_is in
    let bare_is = ap app_of_fields c.no_binary_name.ensures ∙ ap (on_top (λ s. record s { no_binary_name = true })) named_is in
    let have : HaveRules c.in_ok-arguments.arguments.items command_rules = rw c.in_ok-arguments.ensures.items (
    c.option-method.ensures
    & c.option-salt.ensures
    & (rw c.value_parser.ensures at c.number-rounds.ensures)
    & c.flag-stdin.ensures
    & c.flag-batch.ensures
    & c.flag-check.ensures
    & c.flag-audit.ensures
    & c.flag-rehash.ensures
    & c.flag-work.ensures
    & (rw c.value_parser-2.ensures at c.number-budget.ensures)
    & (rw c.signed-lines.ensures at c.number-first_line.ensures)
    & c.operand-password.ensures
    & c.operand-salt_word.ensures
    & tt
    ) in
    IfOk-weaker c.args-2.result _ _ (λ made adds. app_of-args _ _ _ command_rules adds have ∙ ap (λ (app : App). fold with_rule app command_rules) bare_is) c.args-2.ensures

-- The clauses of `scrypt`. The preconditions of its allocations follow from the bounds on the parameters. If the third
-- allocation fails, the meter has counted the first two (`meter-after_two_allocations`). The clause `specified` holds
-- at each return (`HaveCountAndSum-scrypt_messages`).
use Rattle.std.proofs.Common.{◌*◌, length, inr, arith, rules}
use Rattle.kdf_core.specs.Scrypt.{parts_bytes}
use Rattle.kdf_core.specs.ScryptWork.{table_bytes, IsAfterRefusal}
use Rattle.kdf_core.proofs.MessageCounts.{HaveCountAndSum-scrypt_messages}
use Rattle.kdf_core.proofs.ScryptBounds.{parts_bytes-product, parts_bytes-le, table_bytes-product}
use Rattle.kdf_core.proofs.ScryptResult.{meter-after_two_allocations}
use Rattle.kdf_core.proofs.scrypt.scrypt.Goals as goal

pub new-requires-2-clause-fits : goal.new-requires-2-clause-fits
new-requires-2-clause-fits c =
    let params = c.args.params.now in
    omega (arith, parts_bytes-product params c.r-r.result c.p-p.result c.r-r.ensures.number c.p-p.ensures.number, parts_bytes-le params c.r-r.ensures.accepted)

pub new-requires-3-clause-fits : goal.new-requires-3-clause-fits
new-requires-3-clause-fits c =
    omega (arith, c.row_count-rows.ensures.bounded.blocks, c.r-r.ensures.number)

pub returns-in_err-halves-clause-refused : goal.returns-in_err-halves-clause-refused
returns-in_err-halves-clause-refused c =
    let params = c.args.params.now in
    let refused : IsAfterRefusal c.args.meter.now params c.new-3.new.meter =
    inr (inr (meter-after_two_allocations c.args.meter.now c.new.new.meter c.new-2.new.meter c.new-3.new.meter
    (4 * (c.row_count-rows.result * (32 * c.r-r.result))) (128 * c.r-r.result * c.p-p.result) (table_bytes params) (parts_bytes params)
    c.in_ok-table.ensures.count c.in_ok-parts.ensures.count c.in_err-halves.ensures.refused
    (table_bytes-product params c.row_count-rows.result c.r-r.result c.row_count-rows.ensures.number c.r-r.ensures.number)
    (parts_bytes-product params c.r-r.result c.p-p.result c.r-r.ensures.number c.p-p.ensures.number))) in
    search rules

pub returns-in_err-table-clause-specified : goal.returns-in_err-table-clause-specified
returns-in_err-table-clause-specified c = HaveCountAndSum-scrypt_messages c.args.password.now c.args.salt.now c.args.params.now (length c.args.out.now)

pub returns-in_err-parts-clause-specified : goal.returns-in_err-parts-clause-specified
returns-in_err-parts-clause-specified c = HaveCountAndSum-scrypt_messages c.args.password.now c.args.salt.now c.args.params.now (length c.args.out.now)

pub returns-in_err-halves-clause-specified : goal.returns-in_err-halves-clause-specified
returns-in_err-halves-clause-specified c = HaveCountAndSum-scrypt_messages c.args.password.now c.args.salt.now c.args.params.now (length c.args.out.now)

pub returns-clause-specified : goal.returns-clause-specified
returns-clause-specified c = HaveCountAndSum-scrypt_messages c.args.password.now c.args.salt.now c.args.params.now (length c.args.out.now)

use Rattle.std.proofs.Common.{rules, ◌∙◌}
use Rattle.geometry.proofs.Asked.{after_some}
use Rattle.geometry.specs.Refusal.{first_no}
use Rattle.jobtext.specs.Written.{fit_question}
use Rattle.jobtext.proofs.Rounds.{again, allowed, back}
use Rattle.jobtext.proofs.write.write_line.Goals as goal

pub returns : goal.returns
returns g c =
    let p = g.S.Suite.suite.three in
    let laws = g.met.S.Suite.lawful.laws in
    let ok = allowed p c.args.line.now c.in_ok-check.field-0 laws c.in_ok-check.ensures.geometry in
    let asked = first_no (fit_question c.as_slice.result.now c.args.buffer.now) in
    let is = c.as_slice.ensures.value ∙ c.line_text.ensures in
    record {
      length = search rules;
      bytes = search rules;
      back = back c.args.line.now ok c.as_slice.result.now c.args.buffer.now c.put.new.buffer is c.put.result asked c.put.ensures.length c.put.ensures.bytes;
      again = again c.args.line.now ok c.as_slice.result.now c.args.buffer.now c.put.new.buffer is c.put.result asked c.put.ensures.length c.put.ensures.bytes;
    }

pub returns-in_err-check-clause-length : goal.returns-in_err-check-clause-length
returns-in_err-check-clause-length g c = search (rules, after_some)

pub returns-in_err-check-clause-bytes : goal.returns-in_err-check-clause-bytes
returns-in_err-check-clause-bytes g c = search (rules, after_some)

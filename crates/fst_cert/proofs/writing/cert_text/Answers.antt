use Rattle.std.proofs.Common.{arith, sym}
use Rattle.std.proofs.lemmas.List.{length-map}
use Rattle.std.specs.String.{string_bytes}
use Rattle.fst_basis.specs.declared.proof.Chain.{Chain}
use Rattle.fst_cert.specs.Texts.{steps_of}
use Rattle.fst_cert.proofs.LineLaws.{cert_told}
use Rattle.fst_cert.proofs.writing.cert_text.Goals as goal

pub returns : goal.returns
returns c = record {
  cert = record {
    few = omega (arith, c.if-len.false, c.len.ensures);
    many = (let n = length-map c.args.p.now.chains.items (λ (x : Chain). x.steps.items) in omega (arith, c.deref-2.ensures.len));
    pairs = rw c.deref.ensures.value at c.in_ok-push_pairs.ensures.fit;
    all = rw c.deref-2.ensures.value at c.in_ok-push_chains.ensures.fit;
  };
  text_is = cert_told c.args.p.now.basis.items (steps_of c.args.p.now.chains.items) (string_bytes c.new-text.result)
      (string_bytes c.push_count.new.text) (string_bytes c.push_pairs.new.text) (string_bytes c.push_count-2.new.text)
      (string_bytes c.push_chains.new.text) c.new-text.ensures.bytes
      (rw (c.len-2.ensures, c.args.p.now.basis.ok.0) at c.in_ok-push_count.ensures)
      (rw c.deref.ensures.value at c.in_ok-push_pairs.ensures.text)
      (rw (c.len-3.ensures, c.args.p.now.chains.ok.0, sym (length-map c.args.p.now.chains.items (λ (x : Chain). x.steps.items)))
      at c.in_ok-push_count-2.ensures) (rw c.deref-2.ensures.value at c.in_ok-push_chains.ensures.text);
}

use Rattle.std.specs.Int.{w64}
use Rattle.std.proofs.Common.{ap, sym, ◌∙◌, nat_eq}
use Rattle.std.proofs.lemmas.Nat.Bits.{bit_at_set_same, bit_at_set_other, bit_at_clear_same, bit_at_clear_other}
use Rattle.xk_activity.proofs.marks.Marks.set.Goals as goal

pub returns-then-holds : goal.returns-then-holds
returns-then-holds c = record {
  here = ap (λ b. nat_eq b 1) (bit_at_set_same w64 c.args.self.now.bits c.args.s c.requires) ∙ sym c.if-holds.true;
  others = λ k lt ne. ap (λ b. nat_eq b 1) (bit_at_set_other w64 c.args.self.now.bits c.args.s c.requires k ne);
}

pub returns-else-holds : goal.returns-else-holds
returns-else-holds c = record {
  here = ap (λ b. nat_eq b 1) (bit_at_clear_same w64 c.args.self.now.bits c.args.s c.requires) ∙ sym c.if-holds.false;
  others = λ k lt ne. ap (λ b. nat_eq b 1) (bit_at_clear_other w64 c.args.self.now.bits c.args.s c.requires k lt ne);
}

-- The bytes of a source stand for one module, up to how its lists are kept, or one thing is found of them.
use Rattle.std.proofs.Common.{◌≡◌, ◌∙◌, inl, inr, List, ℕ, sym, ap, subst}
use Rattle.std.proofs.lemmas.Option.{none-some, same_Some}
use Rattle.fst_lexer.specs.Lexes.{OneLexing}
use Rattle.fst_terms.specs.ModuleTree.{Declared}
use Rattle.fst_terms.specs.declared.core_module.Module.{Module}
use Rattle.fst_module_grammar.specs.Derives.{AnswersModule, OneModule}
use Rattle.fst_scopes.specs.First.{first_fault}
use Rattle.fst_names.specs.ResolvedModule.{AreSame, IsResolvedModule, OneModuleLaw}
use Rattle.fst_command.specs.Finding.{Finding, IsRead, name_finding, NamesFinding, AreResolved, AreUnresolved}
use Rattle.fst_command.proofs.OneFinding.{one_read, read_once, one_unread}

-- a source has one first fault
one_names : (ds : List Declared) (f g : Finding) → NamesFinding ds f → NamesFinding ds g → f ≡ g
one_names ds f g a b =
    let known = a.first.known in
    let same = same_Some a.fault b.fault (sym (a.first.first known a.first.is_known) ∙ b.first.first known a.first.is_known) in
    same_Some f g (sym a.says ∙ ap name_finding same ∙ b.says)

-- a source that stands for a module has none
no_names : (ds : List Declared) (m : Module) (f : Finding) → IsResolvedModule ds m → NamesFinding ds f → ⊥
no_names ds m f is a = none-some a.fault (sym (ap first_fault is.faultless) ∙ a.first.first is.known is.is_known)

module _ (lexing : OneLexing) (modules : OneModule) (bytes : List ℕ) where
  one_source : (ds es : List Declared) → IsRead AnswersModule bytes ds → IsRead AnswersModule bytes es → ds ≡ es
  one_source ds es r q = one_read AnswersModule lexing modules.one_answer bytes ds es r q

  -- one thing is found of bytes that stand for no module
  pub one_unresolved : (f g : Finding) → AreUnresolved bytes f → AreUnresolved bytes g → f ≡ g
  one_unresolved f g (inl a) (inl b) = one_unread AnswersModule lexing modules.one_answer bytes f g a b
  one_unresolved f g (inl a) (inr (es, q, b)) = absurd (read_once AnswersModule lexing modules.one_answer bytes es f q a)
  one_unresolved f g (inr (ds, r, a)) (inl b) = absurd (read_once AnswersModule lexing modules.one_answer bytes ds g r b)
  one_unresolved f g (inr (ds, r, a)) (inr (es, q, b)) =
      one_names es f g (subst (λ z. NamesFinding z f) (one_source ds es r q) a) b

  -- of bytes that stand for a module nothing is found
  pub resolved_or_not : (m : Module) (f : Finding) → AreResolved bytes m → AreUnresolved bytes f → ⊥
  resolved_or_not m f a (inl b) = read_once AnswersModule lexing modules.one_answer bytes a.declared f a.read b
  resolved_or_not m f a (inr (es, q, b)) = no_names a.declared m f a.resolved
      (subst (λ z. NamesFinding z f) (one_source es a.declared q a.read) b)

  -- the modules that they stand for have the same parts
  pub same_resolved : OneModuleLaw → (m n : Module) → AreResolved bytes m → AreResolved bytes n → AreSame m n
  same_resolved law m n a b = law.one b.declared m n
      (subst (λ z. IsResolvedModule z m) (one_source a.declared b.declared a.read b.read) a.resolved) b.resolved

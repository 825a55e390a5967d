-- What other crates cite of lines, declarations and modules that are read on lists.
-- tokens are those of the line that they begin in, and those of the next lines
pub use Rattle.fst_module_grammar.proofs.Lines.{lines_are}
-- tokens without their lines, of two lists one behind the other; where such tokens are cut in two, and which are the last of them
pub use Rattle.fst_module_grammar.proofs.Lines.{unlined_append, cut, last_is}
-- a declaration is read just where one stands, up to the end of its line
pub use Rattle.fst_module_grammar.proofs.DeclReads.{reads_decl_whole}
-- two answers that are the same have the same value, or the same fault
pub use Rattle.fst_module_grammar.proofs.ModuleFound.{ok_same, err_same}
-- what the reading of a module on lists finds is the answer: the module, or where no text can go on
pub use Rattle.fst_module_grammar.proofs.OneModule.{module_read, module_stopped}
-- a module that was read has a part of each kind that it must have, and few parts
pub use Rattle.fst_module_grammar.proofs.ModuleFacts.{read_filled, read_few}

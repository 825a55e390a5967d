mod WholeLaws
mod ExecutionLaws

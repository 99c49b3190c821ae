pub mod Below
pub mod RefusalLaws

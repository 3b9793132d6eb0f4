-- what only states contracts: the number of each refusal and of each answer of the code
pub mod Codes

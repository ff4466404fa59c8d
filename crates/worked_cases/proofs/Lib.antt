mod Grounds
mod CaseLines
